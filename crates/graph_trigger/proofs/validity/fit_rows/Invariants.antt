use Rattle.std.proofs.Common.{◌≡◌, ℕ, ◌<◌, slice_get, Some}
use Rattle.graph_trigger.specs.declared.pattern_row.PatternRow.{PatternRow}
use Rattle.graph_trigger.specs.Validity.{FitsRow}
use Rattle.graph_trigger.proofs.validity.fit_rows.Given as goal

abbrev pub invariant-loop-place : goal.invariant-loop-place
invariant-loop-place l = (place : ℕ) (row : PatternRow) → place < l.place → slice_get l.rows place ≡ Some row → FitsRow l.variables place row
