use Rattle.std.proofs.Common.{◌≡◌, ℕ, List, Bool, take}
use Rattle.smt_patterns.specs.Patterns.{numbered}
use Rattle.smt_patterns.specs.Places.{places_below, numbers_below}
use Rattle.smt_patterns.proofs.keeping.numbers_at.Given as goal

-- the numbers so far
abbrev pub invariant-loop-place : goal.invariant-loop-place
invariant-loop-place l = (marks : List Bool) (rows : ℕ) → l.places ≡ places_below rows marks → l.found.items ≡ numbered (numbers_below rows marks) (take l.place-index l.asked)
