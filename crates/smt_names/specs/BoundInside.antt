-- How bound names are found: each name has a number, and each number the place of its last binding.
use Rattle.std.specs.Prelude.{◌≡◌, ℕ, ◌==◌, cond, List, [], ◌∷◌, map}
use Rattle.std.specs.Prelude.{reverse, length, get_or, slice_get, Option, Some, None, option_map}
use Rattle.smt_names.specs.declared.bound.Bound.{Bound}
use Rattle.smt_names.specs.declared.linked.Linked.{Linked}
use Rattle.smt_names.specs.declared.bound_names.BoundNames.TheInside.{Inside}
use Rattle.smt_names.specs.DistinctNames.{place_in}

abbrev pub bound_in : List Linked → List Bound
bound_in items = map (λ item. item.bound) items

-- the place of the last binding with this number, where the bindings stand from the last to the first
abbrev pub last_place : ℕ → List Linked → Option ℕ
last_place number [] = None
last_place number (item ∷ earlier) = cond (item.number == number) (Some (length earlier)) (last_place number earlier)

-- each binding, from the last to the first, has the number of its name and the place of the binding of this name
-- before it
abbrev pub AreLinked : List (List ℕ) → List Linked → Type 0
AreLinked names [] = Unit {0}
AreLinked names (item ∷ earlier) =
    (place_in names item.bound.name ≡ Some item.number) × (item.earlier ≡ last_place item.number earlier) ×
    AreLinked names earlier

-- the last place of each number is at hand
pub record IsIndexed (s : Inside) : Type 0 where
  pub linked : AreLinked s.names (reverse s.items.items)
  pub last : (number : ℕ) → get_or s.last.items number None ≡ last_place number (reverse s.items.items)

-- the bound name at a place
abbrev pub bound_at : List Linked → ℕ → Option Bound
bound_at items place = option_map (λ (item : Linked). item.bound) (slice_get items place)
