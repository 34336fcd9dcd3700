use Rattle.formula_table.proofs.ForallLemmas.{ForallsSoFar}
use Rattle.formula_table.proofs.enter_foralls.enter_foralls.Given as goal

-- the foralls so far were entered
abbrev pub invariant-loop-index : goal.invariant-loop-index
invariant-loop-index l = ForallsSoFar l.formula l.fn.table l.table l.numbers.items l.index
