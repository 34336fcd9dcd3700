-- What it is to enter a node over what its parts are.
use Rattle.std.specs.Prelude.{false, ◌≡◌, ℕ, ◌<◌, ◌^◌, List, [], ◌∷◌, ◌++◌, length, slice_index_or}
use Rattle.formula_truth.specs.declared.truth.Truth.{Truth}
use Rattle.formula_truth.specs.declared.truth.Truth.TheVariants.{Unset}
use Rattle.search_board.specs.declared.kind.Kind.{Kind}
use Rattle.search_board.specs.declared.place.Place.{Place}
use Rattle.search_board.specs.Values.{value_of}
use Rattle.search_board.specs.Board.{Shown, blank, truth_at, asserted_at}
use Rattle.search_values.specs.Wiring.{Wires}
use Rattle.search_values.specs.Settled.{told_by}

-- places that were told what these parts are
pub record ArePlaces (shown : Shown) (parts : List ℕ) (places : List Place) : Type 0 where
  pub len : length places ≡ length parts
  pub each : (i : ℕ) → i < length parts →
      ((slice_index_or places i blank).told ≡ truth_at shown (slice_index_or parts i 0))
      × ((slice_index_or places i blank).taken ≡ asserted_at shown (slice_index_or parts i 0))

-- none of the places is struck
abbrev pub NoneStruck : List Place → Type 0
NoneStruck places = (i : ℕ) → (slice_index_or places i blank).struck ≡ false

-- a node with these parts comes last, with the value that its places tell
pub record Enters (wires after : Wires) (shown : Shown) (parts : List ℕ) (kind : Kind) (truth : Truth)
    (places : List Place) : Type 0 where
  pub grows : after.parts ≡ wires.parts ++ parts ∷ []
  pub told : ArePlaces shown parts places
  pub few : length places < 2 ^ 32
  pub value : truth ≡ value_of kind (told_by places) Unset
