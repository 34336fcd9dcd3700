-- Where a name stands.
use Rattle.std.specs.Prelude.{◌≡◌, ℕ, List, Option, Some, bytes_eq}
use Rattle.std.specs.List.{position_from}

-- the place of a name, the first of those that are the same
abbrev pub place_in : List (List ℕ) → List ℕ → Option ℕ
place_in names name = position_from (bytes_eq name) 0 names

-- each name that stood there stands where it stood
abbrev pub KeepPlaces : (old new : List (List ℕ)) → Type 0
KeepPlaces old new = (name : List ℕ) (place : ℕ) → place_in old name ≡ Some place → place_in new name ≡ Some place
