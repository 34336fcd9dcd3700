use Rattle.std.proofs.Common.{take}
use Rattle.smt_patterns.specs.Patterns.{marked}
use Rattle.smt_patterns.specs.Places.{Marks}
use Rattle.smt_patterns.proofs.marks.mark_all.Given as goal

-- the places so far are marked
abbrev pub invariant-loop-place : goal.invariant-loop-place
invariant-loop-place l = Marks l.rows l.initial.places.items l.places.items (λ marks. marked (take l.place-index l.more) marks)
