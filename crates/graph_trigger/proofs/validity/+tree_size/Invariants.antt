use Rattle.std.proofs.Common.{◌≡◌, ◌≤◌, ◌+◌, ℕ, take}
use Rattle.graph_trigger.specs.Trigger.{HaveSize}
use Rattle.graph_trigger.proofs.validity.+tree_size.Given as goal

abbrev pub invariant-loop-i : goal.invariant-loop-i
invariant-loop-i l = (total : ℕ) × HaveSize l.rows (take l.i l.args) total × (l.size ≡ total + 1) × (l.size ≤ l.most)

abbrev pub decreases-tree_size : goal.decreases-tree_size
decreases-tree_size l = l.row
