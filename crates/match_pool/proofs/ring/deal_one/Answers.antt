use Rattle.std.proofs.Common.{◌≡◌, ◌+◌, ℕ, slice_index_or}
use Rattle.std.proofs.lemmas.Result.{on_ok_weaker}
use Rattle.match_pool.specs.declared.matcher.Matcher.{Matcher}
use Rattle.match_pool.specs.Stealing.{known}
use Rattle.match_pool.specs.Weights.{weigh}
use Rattle.match_pool.proofs.Linking.{dealt-one, linked}
use Rattle.match_pool.proofs.ring.deal_one.Goals as goal

pub returns-clause-pushed : goal.returns-clause-pushed
returns-clause-pushed c =
    let d = c.index-matchers-at.result in
    let m : Matcher = slice_index_or c.args.matchers.now c.args.at d in
    on_ok_weaker c.hand_out.result
    (λ (e : (h : ℕ → ℕ) → weigh h (known c.hand_out.new.own).pushed + weigh h c.hand_out.new.starved.items ≡ weigh h (known m.own).pushed + weigh h c.args.starved.now.items + h c.args.number) h.
    dealt-one c.args.matchers.now c.args.at c.args.number d (linked m c.hand_out.new.own m.next) c.args.starved.now.items c.hand_out.new.starved.items h c.requires.at (e h))
    c.hand_out.ensures.pushed
