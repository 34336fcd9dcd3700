use Rattle.std.proofs.Common.{◌<◌, List, length}
use Rattle.match_trees.specs.Trees.{Path}
use Rattle.match_trees.proofs.node_table.NodeTable.root_above.Given as goal

abbrev pub invariant-loop-above : goal.invariant-loop-above
invariant-loop-above g l = record { within : l.top < length l.self.labels; path : (code : List g.row.L.Denot) × Path l.self l.top l.node code }

abbrev pub decreases-loop-above : goal.decreases-loop-above
decreases-loop-above g l = l.top
