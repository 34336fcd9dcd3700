use Rattle.std.proofs.Common.{arith}
use Rattle.match_pool.proofs.Weighing.{weigh-push, weigh_of-taken}
use Rattle.match_pool.proofs.matcher.next_number.Goals as goal

pub returns-in-Some-clause-taken : goal.returns-in-Some-clause-taken
returns-in-Some-clause-taken c h = omega (arith, weigh-push h _ _ _ c.in-Some.ensures.taken)

pub returns-in-None-clause-taken : goal.returns-in-None-clause-taken
returns-in-None-clause-taken c h = rw (c.in-None.ensures.taken.0) (omega (arith, weigh_of-taken h _ _ _ c.rob.ensures.taken))
