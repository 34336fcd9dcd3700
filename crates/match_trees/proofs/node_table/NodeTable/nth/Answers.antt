use Rattle.std.proofs.Common.{arith}
use Rattle.std.proofs.lemmas.Grind.{common_steps}
use Rattle.std.proofs.lemmas.Option.{gets}
use Rattle.match_trees.proofs.node_table.NodeTable.nth.Goals as goal

pub returns : goal.returns
returns g c = (c.nexts-nexts.result.now, c.nexts-nexts.ensures.exact, grind (arith, common_steps, gets))
