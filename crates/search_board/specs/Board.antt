-- What a board shows.
use Rattle.std.specs.Prelude.{◌≡◌, ℕ, ◌<◌, ◌^◌, ◌-◌, Bool, true, false, List, [], ◌∷◌, ◌++◌, length, take}
use Rattle.std.specs.Prelude.{slice_index_or, slice_set}
use Rattle.formula_truth.specs.declared.truth.Truth.{Truth}
use Rattle.formula_truth.specs.declared.truth.Truth.TheVariants.{Unset}
use Rattle.search_board.specs.declared.kind.Kind.{Kind}
use Rattle.search_board.specs.declared.kind.Kind.TheVariants.{Leaf}
use Rattle.search_board.specs.declared.place.Place.{Place}
use Rattle.search_board.specs.Places.{counts_of, unit_test, open_test, stuck_test}

-- nodes by number: kinds, values, which are asserted, and what their places were told
pub record Shown : Type 0 where
  pub kinds : List Kind
  pub truths : List Truth
  pub asserted : List Bool
  pub places : List (List Place)

-- no nodes yet
abbrev pub no_nodes : Shown
no_nodes = record { kinds = []; truths = []; asserted = []; places = [] }

-- a place that was told nothing
abbrev pub blank : Place
blank = record { told = Unset; taken = false; struck = false }

-- the kind of a node
abbrev pub kind_at : Shown → ℕ → Kind
kind_at shown n = slice_index_or shown.kinds n Leaf

-- the value of a node
abbrev pub truth_at : Shown → ℕ → Truth
truth_at shown n = slice_index_or shown.truths n Unset

-- whether a node is asserted
abbrev pub asserted_at : Shown → ℕ → Bool
asserted_at shown n = slice_index_or shown.asserted n false

-- the places of a node
abbrev pub places_at : Shown → ℕ → List Place
places_at shown n = slice_index_or shown.places n []

-- a place of a node
abbrev pub place_at : Shown → ℕ → ℕ → Place
place_at shown n i = slice_index_or (places_at shown n) i blank

-- the node has this value now
abbrev pub with_truth : Shown → ℕ → Truth → Shown
with_truth shown n truth = record shown { truths = slice_set shown.truths n truth }

-- the node is asserted now, or is not
abbrev pub with_asserted : Shown → ℕ → Bool → Shown
with_asserted shown n asserted = record shown { asserted = slice_set shown.asserted n asserted }

-- the place of the node was told this
abbrev pub with_place : Shown → ℕ → ℕ → Place → Shown
with_place shown n i place = record shown {
  places = slice_set shown.places n (slice_set (places_at shown n) i place);
}

-- a node comes last, which is not asserted
abbrev pub with_node : Shown → Kind → Truth → List Place → Shown
with_node shown kind truth places = record {
  kinds = shown.kinds ++ kind ∷ [];
  truths = shown.truths ++ truth ∷ [];
  asserted = shown.asserted ++ false ∷ [];
  places = shown.places ++ places ∷ [];
}

-- the last node goes
abbrev pub without_node : Shown → Shown
without_node shown = record {
  kinds = take (length shown.kinds - 1) shown.kinds;
  truths = take (length shown.kinds - 1) shown.truths;
  asserted = take (length shown.kinds - 1) shown.asserted;
  places = take (length shown.kinds - 1) shown.places;
}

-- whether the node is a unit, by its value and what its places were told
abbrev pub unit_at : Shown → ℕ → Bool
unit_at shown n = unit_test (kind_at shown n) (truth_at shown n) (asserted_at shown n) (counts_of (places_at shown n))

-- whether the node is open, by its value
abbrev pub open_at : Shown → ℕ → Bool
open_at shown n = open_test (kind_at shown n) (truth_at shown n) (asserted_at shown n)

-- whether the node is stuck, by what its places were told
abbrev pub stuck_at : Shown → ℕ → Bool
stuck_at shown n = stuck_test (kind_at shown n) (asserted_at shown n) (counts_of (places_at shown n))

-- none passes the test
abbrev pub NonePasses : (ℕ → Bool) → Type 0
NonePasses test = (n : ℕ) → test n ≡ false

-- the first that passes the test
pub record IsFirstPassing (test : ℕ → Bool) (n : ℕ) : Type 0 where
  pub passes : test n ≡ true
  pub first : (m : ℕ) → m < n → test m ≡ false

-- the lists have a value for each node
pub record AreAligned (shown : Shown) : Type 0 where
  pub truths : length shown.truths ≡ length shown.kinds
  pub asserted : length shown.asserted ≡ length shown.kinds
  pub places : length shown.places ≡ length shown.kinds
  pub few : length shown.kinds < 2 ^ 32
  pub few_places : (n : ℕ) → length (places_at shown n) < 2 ^ 32
