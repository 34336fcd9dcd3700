use Rattle.std.proofs.Common.{◌≡◌, ℕ, ◌<◌}
use Rattle.graph_plain.specs.Labels.{label_of, IsCongruentPair}
use Rattle.graph_plain.proofs.labels.find_congruent_to.Given as goal

abbrev pub invariant-loop-right : goal.invariant-loop-right
invariant-loop-right l = (t : ℕ) → t < l.right → IsCongruentPair l.table.rows l.labels l.left t → label_of l.labels l.left ≡ label_of l.labels t
