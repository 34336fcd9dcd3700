use Rattle.std.proofs.Common.{length}
use Rattle.match_pool.proofs.ring.+fn-run_matchers-join_mut+arg2+fn-run_matchers-join_mut+arg3+run_matchers.Given as goal

abbrev pub decreases-join_mut+arg2 : goal.decreases-join_mut+arg2
decreases-join_mut+arg2 g l = length l.front.now

abbrev pub decreases-join_mut+arg3 : goal.decreases-join_mut+arg3
decreases-join_mut+arg3 g l = length l.back.now

abbrev pub decreases-run_matchers : goal.decreases-run_matchers
decreases-run_matchers g l = length l.matchers.now
