use Rattle.std.proofs.Common.{arith}
use Rattle.match_pool.proofs.Deals.{takes}
use Rattle.match_pool.proofs.thief.Thief.steal.Goals as goal

pub steal_as-requires-clause-takes : goal.steal_as-requires-clause-takes
steal_as-requires-clause-takes c = takes _ _ (omega (arith, c.args.self.now.part.0))
