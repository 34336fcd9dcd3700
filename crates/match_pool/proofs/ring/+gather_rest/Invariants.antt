use Rattle.std.proofs.Common.{length}
use Rattle.match_pool.proofs.ring.+gather_rest.Given as goal

abbrev pub decreases-gather_rest : goal.decreases-gather_rest
decreases-gather_rest l = length l.rest.now
