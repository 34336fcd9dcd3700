-- A tree of marks in a list: the marks below the one at i are those at 2 * i and 2 * i + 1.
use Rattle.std.specs.Prelude.{◌≡◌, ℕ, ◌+◌, ◌*◌, ◌^◌, ◌<◌, ◌≤◌, Bool, true, false, ◌||◌, List, length, slice_index_or}

-- the mark is set where one of the two below it is
abbrev pub IsJoint : List Bool → ℕ → Type 0
IsJoint marks i =
    slice_index_or marks i false ≡ (slice_index_or marks (2 * i) false || slice_index_or marks (2 * i + 1) false)

-- a tree with so many levels above the bottom
pub record IsTree (marks : List Bool) (height : ℕ) : Type 0 where
  pub len : length marks ≡ 2 * 2 ^ height
  pub joint : (i : ℕ) → 1 ≤ i → i < 2 ^ height → IsJoint marks i

-- the mark at this place behind the start is set, and none before it
pub record IsLeastFrom (marks : List Bool) (start place : ℕ) : Type 0 where
  pub is_set : slice_index_or marks (start + place) false ≡ true
  pub none : (i : ℕ) → i < place → slice_index_or marks (start + i) false ≡ false
