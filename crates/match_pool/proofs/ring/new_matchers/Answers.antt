use Rattle.std.proofs.Common.{rules, ◌≡◌, ◌++◌, ◌∷◌, [], ◌<◌, ap, arith}
use lib.ListN.{length-append}
use Rattle.std.proofs.lemmas.List.Elements.{All-push}
use Rattle.match_pool.specs.declared.matcher.Matcher.{Matcher}
use Rattle.match_pool.specs.Ring.{IsAlone}
use Rattle.match_pool.specs.Stealing.{known}
use Rattle.match_pool.specs.Weights.{weigh}
use Rattle.match_pool.proofs.Weighing.{weigh-snoc}
use Rattle.match_pool.proofs.ring.new_matchers.Goals as goal

pub loop-worker-preserved : goal.loop-worker-preserved
loop-worker-preserved c =
    let old = c.loop-worker.matchers.items in
    let m : Matcher = c.in_ok-new_matcher.field-0 in
    let inv = c.loop-worker.invariant in
    let items : c.push.new.self.items ≡ old ++ m ∷ [] = search rules in
    let below : c.loop-worker.worker < c.args.workers = omega arith in
    record {
      alone = rw items (All-push (IsAlone c.args.workers) old m inv.alone (c.in_ok-new_matcher.ensures.alone c.args.workers below));
      pushed = λ h. rw items (let none = ap (weigh h) c.in_ok-new_matcher.ensures.pushed in omega (arith, none, inv.pushed h, weigh-snoc (λ (n : Matcher). weigh h (known n.own).pushed) old m));
      many = rw items (omega (arith, inv.many, length-append old (m ∷ [])));
    }
