-- Things that become items of a list in which no item stands twice, one after another.
use Rattle.std.specs.Prelude.{◌≡◌, ℕ, ◌+◌, ◌<◌, ◌≤◌, ◌⊎◌, List, []}
use Rattle.std.specs.Prelude.{◌∷◌, ◌++◌, length, slice_get, slice_index, Some, AllPairs}

module _ {X : Type 0} where
  -- no item of the list is this one
  abbrev pub StandsNowhere : List X → X → Type 0
  StandsNowhere items x = (n : ℕ) → slice_get items n ≡ Some x → ⊥

  -- Each thing before a number stands among the items, at its own number. The items that were added for them are, in
  -- the order of the things, those that stood nowhere, each put for the first thing that becomes it, and there was
  -- room for them.
  pub record AreInOrder (Becomes : ℕ → X → Type 0) (items : List X) (limit before : ℕ) (added : List X)
      (numbers : List ℕ) : Type 0 where
    pub stand : (n : ℕ) (x : X) → n < before → Becomes n x →
        slice_get (items ++ added) (slice_index numbers n) ≡ Some x
    pub things : List ℕ
    pub rising : AllPairs (λ a b. a < b) things
    pub count : length things ≡ length added
    pub each : (k n : ℕ) (x : X) → slice_get things k ≡ Some n → slice_get added k ≡ Some x → (n < before) ×
        Becomes n x
    pub first : (k m n : ℕ) (x : X) → slice_get things k ≡ Some n → slice_get added k ≡ Some x → m < n → Becomes m x →
        ⊥
    pub once : (i j : ℕ) (x : X) → slice_get (items ++ added) i ≡ Some x → slice_get (items ++ added) j ≡ Some x →
        length items ≤ j → i ≡ j
    pub room : (length added ≡ 0) ⊎ (length items + length added ≤ limit)

  -- the thing becomes an item that stands nowhere, and as many items stand as may
  abbrev pub IsFullFor : (X → Type 0) → List X → ℕ → Type 0
  IsFullFor Becomes items limit = (x : X) × Becomes x × StandsNowhere items x × (length items ≡ limit)

  -- what comes of one thing: it becomes no item, or one that is put last, or one that stands; and its number
  pub data PutsNext (Becomes : X → Type 0) (items : List X) (limit : ℕ) : List X → ℕ → Type 0 where
    nothing : ((x : X) → Becomes x → ⊥) → PutsNext Becomes items limit [] 0
    put_last : {x : X} → Becomes x → StandsNowhere items x → length items < limit →
        PutsNext Becomes items limit (x ∷ []) (length items)
    stood : {x : X} {number : ℕ} → Becomes x → slice_get items number ≡ Some x →
        PutsNext Becomes items limit [] number
