use Rattle.formula_table.proofs.BodyLemmas.{ArePlacesBelow}
use Rattle.formula_table.proofs.body.places.Given as goal

-- the places of the numbers so far
abbrev pub invariant-loop-place : goal.invariant-loop-place
invariant-loop-place l = ArePlacesBelow l.kept l.count l.place l.places.items
