use Rattle.std.proofs.Common.{◌≡◌, ℕ, ◌<◌, slice_get, Some}
use Rattle.graph_trigger.specs.declared.pattern_row.PatternRow.TheVariants.{Var}
use Rattle.graph_trigger.proofs.validity.variable_stands.Given as goal

abbrev pub invariant-loop-row : goal.invariant-loop-row
invariant-loop-row l = (row : ℕ) → row < l.row → slice_get l.rows row ≡ Some (Var l.index) → ⊥
