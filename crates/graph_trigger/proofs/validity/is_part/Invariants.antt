use Rattle.std.proofs.Common.{◌≡◌, ℕ, ◌<◌, List, slice_get, Some, Contains}
use Rattle.graph_trigger.specs.declared.pattern_row.PatternRow.TheVariants.{App}
use Rattle.graph_trigger.proofs.validity.is_part.Given as goal

abbrev pub invariant-loop-above : goal.invariant-loop-above
invariant-loop-above l = (above symbol : ℕ) (parts : List ℕ) → above < l.above → slice_get l.rows above ≡ Some (App symbol parts) → Contains parts l.row → ⊥
