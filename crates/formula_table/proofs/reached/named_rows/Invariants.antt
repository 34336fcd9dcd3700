use Rattle.std.proofs.Common.{length}
use Rattle.formula_draft.specs.DraftNode.{rows_of}
use Rattle.formula_table.proofs.MarkLemmas.{AreNamed}
use Rattle.formula_table.proofs.reached.named_rows.Given as goal

-- the rows of the nodes so far are marked
abbrev pub invariant-loop-n : goal.invariant-loop-n
invariant-loop-n l = AreNamed rows_of l.formula.nodes l.start (length l.formula.rows) l.n l.marks.items
