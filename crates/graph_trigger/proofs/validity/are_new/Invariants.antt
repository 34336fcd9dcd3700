use Rattle.std.proofs.Common.{ℕ, ◌<◌}
use Rattle.graph_trigger.specs.Validity.{IsNewRow}
use Rattle.graph_trigger.proofs.validity.are_new.Given as goal

abbrev pub invariant-loop-place : goal.invariant-loop-place
invariant-loop-place l = (place : ℕ) → place < l.place → IsNewRow l.rows place
