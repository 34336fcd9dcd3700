-- Sets of keys.
use Rattle.std.specs.Prelude.{ℕ, List, Vec, map, ◌↔◌, ◌⊎◌, Contains}
use Rattle.std.specs.declared.alloc.Global.{Global}

-- the numbers of each key
abbrev pub lists_of : List (Vec ℕ Global) → List (List ℕ)
lists_of keys = map (λ key. key.items) keys

-- it gained exactly the keys with a property
abbrev pub GainsKeys : (List ℕ → Type 0) → List (List ℕ) → List (List ℕ) → Type 0
GainsKeys P old new = (key : List ℕ) → Contains new key ↔ (Contains old key ⊎ P key)
