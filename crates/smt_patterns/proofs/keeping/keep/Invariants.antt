use Rattle.std.proofs.Common.{◌≡◌, ℕ, List, Bool, map, take}
use Rattle.smt_patterns.specs.Places.{places_below, kept_row}
use Rattle.smt_patterns.proofs.keeping.keep.Given as goal

-- the rows so far
abbrev pub invariant-loop-i : goal.invariant-loop-i
invariant-loop-i l = (marks : List Bool) (rows : ℕ) → l.places ≡ places_below rows marks → l.kept ≡ map (kept_row l.draft.rows marks) (take l.i l.places)
