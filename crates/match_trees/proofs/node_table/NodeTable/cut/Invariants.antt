use Rattle.std.proofs.Common.{◌≡◌, ◌≤◌, length}
use Rattle.match_trees.specs.Trees.{trees_front}
use Rattle.match_trees.proofs.node_table.NodeTable.cut.Given as goal

abbrev pub invariant-loop-self : goal.invariant-loop-self
invariant-loop-self g l = record { within : l.nodes ≤ length l.self.labels; front : trees_front l.nodes l.self ≡ trees_front l.nodes l.fn.self }

abbrev pub decreases-loop-self : goal.decreases-loop-self
decreases-loop-self g l = length l.self.labels
