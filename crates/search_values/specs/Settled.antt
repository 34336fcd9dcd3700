-- Boards whose places were told what their parts are.
use Rattle.std.specs.Prelude.{◌≡◌, ℕ, ◌+◌, ◌*◌, ◌<◌, ◌≤◌, ◌⊎◌, true, false, not}
use Rattle.std.specs.Prelude.{List, [], ◌∷◌, ◌++◌, length, map, count_by, Contains}
use Rattle.formula_truth.specs.declared.truth.Truth.{Truth}
use Rattle.formula_truth.specs.declared.truth.Truth.TheVariants.{Unset}
use Rattle.search_board.specs.declared.kind.Kind.TheVariants.{Leaf}
use Rattle.search_board.specs.declared.place.Place.{Place}
use Rattle.formula_truth.specs.Truths.{is_set_value}
use Rattle.search_board.specs.Values.{value_of}
use Rattle.search_board.specs.Board.{Shown, AreAligned}
use Rattle.search_board.specs.Board.{kind_at, truth_at, asserted_at, places_at, place_at, with_truth}
use Rattle.search_values.specs.Wiring.{Wires, IsPlace, up, parts_at, part_at, ups_at, up_at}

-- what the places were told
abbrev pub told_by : List Place → List Truth
told_by places = map (λ place. place.told) places

-- the board is of these nodes
pub record AreWires (wires : Wires) (shown : Shown) : Type 0 where
  pub aligned : AreAligned shown
  pub nodes : length wires.parts ≡ length shown.kinds
  pub places : (n : ℕ) → length (places_at shown n) ≡ length (parts_at wires n)

-- the place was told what its part is
pub record IsUpToDate (wires : Wires) (shown : Shown) (n i : ℕ) : Type 0 where
  pub told : (place_at shown n i).told ≡ truth_at shown (part_at wires n i)
  pub taken : (place_at shown n i).taken ≡ asserted_at shown (part_at wires n i)

-- the first value is Unset or is the second
abbrev pub Grows : Truth → Truth → Type 0
Grows old new = (old ≡ Unset) ⊎ (old ≡ new)

-- but for the places that wait, each was told what its part is, and each node has the value that its places tell
pub record IsSettledBut (waits : ℕ → ℕ → Type 0) (wires : Wires) (shown : Shown) : Type 0 where
  pub past : (n i : ℕ) → IsPlace wires n i → Grows (place_at shown n i).told (truth_at shown (part_at wires n i))
  pub told : (n i : ℕ) → IsPlace wires n i → waits n i ⊎ IsUpToDate wires shown n i
  pub values : (n : ℕ) → n < length wires.parts →
      truth_at shown n ≡ value_of (kind_at shown n) (told_by (places_at shown n)) (truth_at shown n)

-- each place was told what its part is, and each node has the value that its places tell
abbrev pub IsSettled : Wires → Shown → Type 0
IsSettled wires shown = IsSettledBut (λ _ _. ⊥) wires shown

-- the place waits: its part is on the work list, or it stands among the places of a node from one on
abbrev pub Waits : Wires → List ℕ → ℕ → ℕ → ℕ → ℕ → Type 0
Waits wires work n k q i =
    Contains work (part_at wires q i)
    ⊎ ((j : ℕ) × (k ≤ j) × (j < length (ups_at wires n)) × (up_at wires n j ≡ up q i))

-- the part of the place is on the work list
abbrev pub WaitsIn : Wires → List ℕ → ℕ → ℕ → Type 0
WaitsIn wires work q i = Contains work (part_at wires q i)

-- how much there is to do at most
abbrev pub weight : Shown → List ℕ → ℕ
weight shown work = 2 * count_by (λ truth. not (is_set_value truth)) shown.truths + length work

-- the value of a node by what its places were told
abbrev pub value_at : Shown → ℕ → Truth
value_at shown n = value_of (kind_at shown n) (told_by (places_at shown n)) (truth_at shown n)

-- a node got the value that its places tell, and was put on the work list; or it has that value
pub data Raises (n : ℕ) (old new : Shown) (before after : List ℕ) : Type 0 where
  stays : new ≡ old → after ≡ before →
      (is_set_value (truth_at old n) ≡ true) ⊎ (is_set_value (value_at old n) ≡ false) → Raises n old new before after
  raised : is_set_value (truth_at old n) ≡ false → is_set_value (value_at old n) ≡ true →
      new ≡ with_truth old n (value_at old n) → after ≡ before ++ n ∷ [] → Raises n old new before after

-- telling changes no kind, no leaf, nothing that is asserted or struck, and no value but an Unset one
pub record Tells (old new : Shown) : Type 0 where
  pub kinds : new.kinds ≡ old.kinds
  pub asserted : new.asserted ≡ old.asserted
  pub places : (n : ℕ) → length (places_at new n) ≡ length (places_at old n)
  pub struck : (n i : ℕ) → (place_at new n i).struck ≡ (place_at old n i).struck
  pub leaves : (n : ℕ) → kind_at old n ≡ Leaf → truth_at new n ≡ truth_at old n
  pub grows : (n : ℕ) → Grows (truth_at old n) (truth_at new n)

-- as above, but that the value of one node may be behind what its places tell
pub record IsSettledExcept (waits : ℕ → ℕ → Type 0) (node : ℕ) (wires : Wires) (shown : Shown) : Type 0 where
  pub past : (n i : ℕ) → IsPlace wires n i → Grows (place_at shown n i).told (truth_at shown (part_at wires n i))
  pub told : (n i : ℕ) → IsPlace wires n i → waits n i ⊎ IsUpToDate wires shown n i
  pub others : (n : ℕ) → n < length wires.parts → (n ≡ node → ⊥) → truth_at shown n ≡ value_at shown n
  pub here : Grows (truth_at shown node) (value_at shown node)
