use Rattle.std.proofs.Common.{ℕ, ◌<◌}
use Rattle.graph_plain.specs.Labels.{IsCongruentToAll}
use Rattle.graph_plain.proofs.labels.find_congruent.Given as goal

abbrev pub invariant-loop-left : goal.invariant-loop-left
invariant-loop-left l = (s : ℕ) → s < l.left → IsCongruentToAll l.table.rows l.labels s
