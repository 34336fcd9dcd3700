-- Places of a node that are put behind the ups of its parts.
use Rattle.std.specs.Prelude.{◌≡◌, ℕ, ◌++◌, List, [], length, slice_index_or, take}
use Rattle.search_values.specs.declared.up.Up.{Up}
use Rattle.search_values.specs.Wiring.{places_with}

-- the first so many places of the node stand behind the ups that were there, each behind those of its part
pub record WiresUps (base : ℕ → List Up) (len : ℕ) (ups : List (List Up)) (parts : List ℕ) (n count : ℕ) : Type 0
  where
    pub len_is : length ups ≡ len
    pub are : (m : ℕ) → slice_index_or ups m [] ≡ base m ++ places_with m n 0 (take count parts)

-- what the ups of each node are
abbrev pub ups_in : List (List Up) → ℕ → List Up
ups_in ups m = slice_index_or ups m []
