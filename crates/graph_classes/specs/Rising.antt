-- Lists of numbers that rise.
use Rattle.std.specs.Prelude.{◌≡◌, ◌≤◌, ℕ, List, length, Option, MatchOption, insert, Contains}

-- the number was put at a place of the list, or it was there already
abbrev pub Enters : List ℕ → List ℕ → ℕ → Option ℕ → Type 0
Enters old new item at = MatchOption at ((new ≡ old) × Contains old item) (λ i. (i ≤ length old) ×
    (new ≡ insert old i item))
