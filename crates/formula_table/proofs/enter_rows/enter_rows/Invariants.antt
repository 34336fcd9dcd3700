use Rattle.formula_table.proofs.EntryLemmas.{RowsSoFar}
use Rattle.formula_table.proofs.enter_rows.enter_rows.Given as goal

-- the rows so far were entered
abbrev pub invariant-loop-n : goal.invariant-loop-n
invariant-loop-n g l = RowsSoFar (g.E.TermEntry.grown l.fn.terms l.terms) (g.F.RowList.formula l.formula) l.tuple (g.E.TermEntry.rows l.fn.terms) (g.E.TermEntry.limit l.fn.terms) (g.E.TermEntry.rows l.terms) (g.E.TermEntry.limit l.terms) l.numbers.items l.n
