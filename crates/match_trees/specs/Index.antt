-- What an `Index` keeps.
use Rattle.std.specs.Prelude.{◌≡◌, ℕ, ◌<◌, ◌≤◌, ◌^◌, ◌⊎◌, List, [], length, slice_get, Some}
use Rattle.graph_meaning.specs.Questions.{AreAll}

-- the lists have, for each key, exactly the places at which it stands
pub record IsIndexed (keys : List ℕ) (lists : List (List ℕ)) : Type 0 where
  pub few : length keys < 2 ^ 32
  pub within : (n key : ℕ) → slice_get keys n ≡ Some key → key < length lists
  pub exact : (key : ℕ) (list : List ℕ) → slice_get lists key ≡ Some list →
      AreAll (λ n. slice_get keys n ≡ Some key) list

-- empty lists came last
pub record GrewEmpty (old new : List (List ℕ)) : Type 0 where
  pub longer : length old ≤ length new
  pub each : (key : ℕ) (list : List ℕ) → slice_get new key ≡ Some list →
      (slice_get old key ≡ Some list) ⊎ ((length old ≤ key) × (list ≡ []))
