-- What is put behind what was written before.
use Rattle.std.specs.Prelude.{◌≡◌, List, ℕ, ◌++◌}

-- a text of this kind was put at the end
abbrev pub Puts : (List ℕ → Type 0) → List ℕ → List ℕ → Type 0
Puts IsIt old new = (added : List ℕ) × IsIt added × (new ≡ old ++ added)
