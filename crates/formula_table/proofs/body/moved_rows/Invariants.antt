use Rattle.std.specs.Prelude.{slice_index}
use Rattle.formula_table.specs.Body.{renamed_row}
use Rattle.formula_table.proofs.BodyLemmas.{AreMovedBelow}
use Rattle.formula_table.proofs.body.moved_rows.Given as goal

-- the rows so far were moved
abbrev pub invariant-loop-n : goal.invariant-loop-n
invariant-loop-n l = AreMovedBelow (renamed_row (slice_index l.places)) l.formula.rows l.kept l.n-index l.rows.items
