use Rattle.std.proofs.Common.{rules, ◌≡◌, ◌++◌, ◌∷◌, [], arith}
use Rattle.match_pool.proofs.Weighing.{weigh-push}
use Rattle.match_pool.proofs.ring.drain.Goals as goal

pub loop-round-preserved : goal.loop-round-preserved
loop-round-preserved c = record {
  same = search rules;
  out = λ h.
      let pushed : c.push.new.self.items ≡ c.loop-round.starved.items ++ c.in-Some.number ∷ [] = search rules in
      omega (arith, weigh-push h _ _ _ c.in-Some.ensures.taken, weigh-push h _ _ _ pushed, c.loop-round.invariant.out h);
}
