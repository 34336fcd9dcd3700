use Rattle.std.proofs.Common.{length}
use Rattle.match_pool.proofs.ring.+link_rest.Given as goal

abbrev pub decreases-link_rest : goal.decreases-link_rest
decreases-link_rest l = length l.rest.now
