-- Lists in which no item stands twice, and the keys of their items.
use Rattle.std.specs.Prelude.{◌≡◌, ℕ, Bool, List, [], ◌∷◌, ◌++◌, length}
use Rattle.std.specs.Prelude.{slice_get, nat_eq, nat_lt, if◌then◌else◌, Option, Some, None, Vec}
use Rattle.std.specs.List.{position_from}
use Rattle.std.specs.Cmp.Lexicographic.{pointwise}
use Rattle.std.specs.declared.alloc.Global.{Global}

module _ {X : Type 0} where
  -- the number that an item was found under; else it is put last, where there is room
  abbrev pub item_or_new : ℕ → X → List X → Option ℕ → Option (ℕ × List X)
  item_or_new most new items (Some n) = Some (n, items)
  item_or_new most new items None = if nat_lt (length items) most then Some (
    length items,
    items ++ new ∷ [],
  ) else None

  -- the number of an item, and the items with it: it stands, or it is put last, or there is no room for it
  abbrev pub with_item : (X → X → Bool) → ℕ → X → List X → Option (ℕ × List X)
  with_item same most new items = item_or_new most new items (position_from (same new) 0 items)

  -- what came of putting an item: its number and the items with it, or that there is no room for it
  abbrev pub Puts : Option (ℕ × List X) → List X → List X → Option ℕ → Type 0
  Puts put old new (Some n) = put ≡ Some (n, new)
  Puts put old new None = (put ≡ None) × (new ≡ old)

  -- the entries have one key
  abbrev pub same_key : Vec ℕ Global × X → Vec ℕ Global × X → Bool
  same_key new old = pointwise nat_eq new.0.items old.0.items

  -- each item stands under its key
  abbrev pub AreKeyed : (X → List ℕ) → List (Vec ℕ Global × X) → Type 0
  AreKeyed key entries = (n : ℕ) (entry : Vec ℕ Global × X) → slice_get entries n ≡ Some entry →
      entry.0.items ≡ key entry.1
