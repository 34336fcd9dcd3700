use Rattle.std.proofs.Common.{rules, ◌≡◌, ◌+◌, ◌∷◌, ℕ}
use Rattle.std.proofs.lemmas.Result.{on_ok_weaker}
use Rattle.match_pool.specs.Ring.{pushed_by, starved_by, taken_by}
use Rattle.match_pool.specs.Stealing.{known, stolen}
use Rattle.match_pool.specs.Weights.{weigh}
use Rattle.match_pool.proofs.Linking.{gathers-all}
use Rattle.match_pool.proofs.ring.gather.Goals as goal

pub returns-clause-starved : goal.returns-clause-starved
returns-clause-starved c =
    let m = c.in-Some.first.now in
    let more = c.in-Some.rest.now in
    let whole : c.args.matchers.now ≡ m ∷ more = search rules in
    on_ok_weaker c.gather_rest.result
    (λ (e : (h : ℕ → ℕ) → weigh h c.put_found.new.pieces.starved.items + weigh h (known m.own).pushed + pushed_by h more + starved_by h more ≡ weigh h c.gather_rest.new.pieces.starved.items + weigh h (known m.own).taken + weigh h (stolen c.take.result) + taken_by h more) h.
    gathers-all h m more c.args.matchers.now c.take.result c.args.pieces.now.starved.items c.put_found.new.pieces.starved.items c.gather_rest.new.pieces.starved.items whole c.in_ok-put_found.ensures.starved c.take.ensures.value (e h))
    c.gather_rest.ensures.starved
