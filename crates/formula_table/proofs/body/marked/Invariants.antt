use Rattle.formula_table.proofs.BodyLemmas.{AreMarkedBelow}
use Rattle.formula_table.proofs.body.marked.Given as goal

-- the marked numbers so far
abbrev pub invariant-loop-n : goal.invariant-loop-n
invariant-loop-n l = AreMarkedBelow l.marks l.n l.kept.items
