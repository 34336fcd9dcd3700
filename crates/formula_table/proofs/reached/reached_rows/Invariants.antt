use Rattle.std.proofs.Common.{◌≤◌, length}
use Rattle.formula_draft.specs.DraftRow.{args_of}
use Rattle.formula_draft.specs.DraftNode.{rows_of}
use Rattle.formula_draft.specs.Reach.{ReachesRow}
use Rattle.formula_table.specs.Marks.{IsNamed}
use Rattle.formula_table.proofs.MarkLemmas.{IsClosing}
use Rattle.formula_table.proofs.reached.reached_rows.Given as goal

-- from the row on, arguments of what is marked are marked
abbrev pub invariant-loop-n : goal.invariant-loop-n
invariant-loop-n l = (l.n ≤ length l.formula.rows) × IsClosing l.formula.rows args_of (ReachesRow l.formula.rows l.formula.nodes l.start) (IsNamed rows_of l.formula.nodes l.start) l.n l.marks.items

abbrev pub decreases-loop-n : goal.decreases-loop-n
decreases-loop-n l = l.n
