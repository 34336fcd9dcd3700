use Rattle.std.proofs.Common.{rules, ◌≡◌, ◌++◌, ◌∷◌, [], ap, arith}
use Rattle.crossbeam_deque.specs.Handles.{worker_view}
use Rattle.match_pool.specs.declared.share.Share.{Share}
use Rattle.match_pool.proofs.Weighing.{weigh-push}
use Rattle.match_pool.proofs.Deals.{pushes}
use Rattle.match_pool.proofs.ring.hand_out.Goals as goal

pub push_as-requires-clause-pushes : goal.push_as-requires-clause-pushes
push_as-requires-clause-pushes c = pushes _ _ _ c.requires

pub returns-in-Ok-clause-pushed : goal.returns-in-Ok-clause-pushed
returns-in-Ok-clause-pushed c h = omega (arith, weigh-push h _ _ _ (ap (λ (s : Share). s.pushed) c.in-Ok.ensures.rule.0))

pub returns-in-Ok-push-clause-pushed : goal.returns-in-Ok-push-clause-pushed
returns-in-Ok-push-clause-pushed c h =
    let same : (worker_view c.push_as.new.self).pushed ≡ (worker_view c.args.own.now).pushed = ap (λ (s : Share). s.pushed) c.in-Err.ensures.rule.1 in
    let items : c.push.new.self.items ≡ c.args.starved.now.items ++ c.args.number ∷ [] = search rules in
    rw same (omega (arith, weigh-push h _ _ _ items))
