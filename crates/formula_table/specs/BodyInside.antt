-- What the steps that make a body say.
use Rattle.std.specs.Prelude.{◌≡◌, ℕ, Bool, true, false, List, [], ◌∷◌, ◌++◌, length, slice_get, slice_index, Some}

-- the numbers with one more, where it is marked
abbrev pub with_marked : ℕ → Bool → List ℕ → List ℕ
with_marked n true kept = kept ++ n ∷ []
with_marked n false kept = kept

-- by each kept number the place that it has
pub record ArePlaces (kept : List ℕ) (count : ℕ) (places : List ℕ) : Type 0 where
  pub len : length places ≡ count
  pub each : (k n : ℕ) → slice_get kept k ≡ Some n → slice_index places n ≡ k

-- the kept items, each moved
pub record AreMoved {X : Type 0} (move : X → X) (items : List X) (kept : List ℕ) (moved : List X) : Type 0 where
  pub count : length moved ≡ length kept
  pub each : (k n : ℕ) (x : X) → slice_get kept k ≡ Some n → slice_get items n ≡ Some x →
      slice_get moved k ≡ Some (move x)
