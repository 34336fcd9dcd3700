use Rattle.std.proofs.Common.{take}
use Rattle.formula_table.specs.Marks.{Marks}
use Rattle.formula_table.proofs.reached.mark.Given as goal

-- the places so far were marked
abbrev pub invariant-loop-place : goal.invariant-loop-place
invariant-loop-place l = Marks (take l.place-index l.places) l.fn.marks l.marks
