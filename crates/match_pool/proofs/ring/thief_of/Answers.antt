use Rattle.match_pool.proofs.Deals.{forks}
use Rattle.match_pool.proofs.ring.thief_of.Goals as goal

pub another-pass-requires : goal.another-pass-requires
another-pass-requires c = forks _ _ c.requires.parts
