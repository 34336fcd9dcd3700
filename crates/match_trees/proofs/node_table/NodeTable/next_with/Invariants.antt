use Rattle.std.proofs.Common.{◌≡◌, ◌<◌, ℕ, slice_get, Some, get_or}
use Rattle.match_trees.proofs.node_table.NodeTable.next_with.Given as goal

abbrev pub invariant-loop-node : goal.invariant-loop-node
invariant-loop-node g l = (k : ℕ) → k < l.node-index → slice_get l.self.labels (get_or l.nexts k 0) ≡ Some l.label → ⊥
