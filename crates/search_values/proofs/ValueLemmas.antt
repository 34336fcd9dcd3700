-- A settled board has the values that are defined.
use Rattle.std.proofs.Common.{zero, suc, ◌≡◌, ◌<◌, inl, inr, ℕ, List, [], ◌∷◌, length, slice_index_or, Contains, refl, sym, subst, ◌∙◌, ap, arith}
use Rattle.std.proofs.lemmas.List.Elements.{Contains-append_cases, Contains-append_left, Contains-append_right, Contains-push, Contains-push_cases}
use Rattle.formula_truth.specs.declared.truth.Truth.{Truth}
use Rattle.formula_truth.specs.declared.truth.Truth.TheVariants.{Yes, No, Unset}
use Rattle.search_board.specs.declared.kind.Kind.{Kind}
use Rattle.search_board.specs.declared.kind.Kind.TheVariants.{Leaf, And, Or}
use Rattle.search_board.specs.declared.place.Place.{Place}
use Rattle.formula_truth.specs.Truths.{all_of, some_of}
use Rattle.formula_truth.specs.Joins.{IsJoin, AreJoins}
use Rattle.search_board.specs.Values.{value_of}
use Rattle.search_board.specs.Board.{Shown, blank, kind_at, truth_at, asserted_at, places_at, place_at}
use Rattle.search_values.specs.Wiring.{Wires, IsPlace, IsWired, parts_at, part_at}
use Rattle.search_values.specs.Settled.{told_by, AreWires, IsSettled}
use Rattle.search_values.specs.Given.{HasYes, HasNo, HasValue}
use Rattle.search_values.proofs.ListLemmas.{list_within}
use Rattle.search_values.specs.GivenBy.{given_by, leaf_only}

-- ---- what places tell

-- what a place tells is told
told_here : (places : List Place) (i : ℕ) → i < length places → Contains (told_by places) (slice_index_or places i blank).told
told_here [] i h = absurd (omega arith)
told_here (p ∷ ps) zero h = Contains-append_left (p.told ∷ []) (told_by ps) p.told (Contains-push [] p.told)
told_here (p ∷ ps) (suc i) h = Contains-append_right (p.told ∷ []) (told_by ps) (slice_index_or ps i blank).told (told_here ps i (omega arith))

-- what is told is told by a place
told_where : (places : List Place) (t : Truth) → Contains (told_by places) t → (i : ℕ) × (i < length places) × ((slice_index_or places i blank).told ≡ t)
told_where [] t c = absurd (omega (arith, c.1))
told_where (p ∷ ps) t c = elim (Contains-append_cases (p.told ∷ []) (told_by ps) t c) [
  | inl first ↦ elim (Contains-push_cases [] p.told t first) [ inl none ↦ absurd (omega (arith, none.1)) | inr is ↦ (0, omega arith, is) ]
  | inr later ↦ let found = told_where ps t later in (suc found.0, omega (arith, found.1), found.2)
]

module _ {of : List Truth → Truth} {each any : Truth} (join : IsJoin of each any) (places : List Place) where
  all_each : of (told_by places) ≡ each → (i : ℕ) → i < length places → (slice_index_or places i blank).told ≡ each
  all_each e i h = (join.all (told_by places)).0 e (slice_index_or places i blank).told (told_here places i h)

  each_all : ((i : ℕ) → i < length places → (slice_index_or places i blank).told ≡ each) → of (told_by places) ≡ each
  each_all told = (join.all (told_by places)).1 (λ t c. let found = told_where places t c in sym found.2 ∙ told found.0 found.1)

  pub some_any : of (told_by places) ≡ any → (i : ℕ) × (i < length places) × ((slice_index_or places i blank).told ≡ any)
  some_any e = told_where places any ((join.some (told_by places)).0 e)

  any_some : (i : ℕ) → i < length places → (slice_index_or places i blank).told ≡ any → of (told_by places) ≡ any
  any_some i h e = (join.some (told_by places)).1 (subst (Contains (told_by places)) e (told_here places i h))

-- ---- the values

module _ (joins : AreJoins) (wires : Wires) (s : Shown) (wired : IsWired wires) (are : AreWires wires s) (settled : IsSettled wires s) where
  -- the node with a place stands
  pub place_of : (n i : ℕ) → i < length (parts_at wires n) → IsPlace wires n i
  place_of n i h = record { node = list_within wires.parts n i h; place = h }

  -- a place was told the value of its part
  pub told_is : (n i : ℕ) → i < length (parts_at wires n) → (place_at s n i).told ≡ truth_at s (part_at wires n i)
  told_is n i h = elim (settled.told n i (place_of n i h)) [ inl waits ↦ absurd waits | inr up_to_date ↦ up_to_date.told ]

  -- a place was told whether its part is asserted
  pub taken_is : (n i : ℕ) → i < length (parts_at wires n) → (place_at s n i).taken ≡ asserted_at s (part_at wires n i)
  taken_is n i h = elim (settled.told n i (place_of n i h)) [ inl waits ↦ absurd waits | inr up_to_date ↦ up_to_date.taken ]

  -- the value of a conjunction, and that of a disjunction
  pub all_is : (n : ℕ) → n < length wires.parts → kind_at s n ≡ And → truth_at s n ≡ all_of (told_by (places_at s n))
  all_is n h is_and = settled.values n h ∙ ap (λ (k : Kind). value_of k (told_by (places_at s n)) (truth_at s n)) is_and

  pub some_is : (n : ℕ) → n < length wires.parts → kind_at s n ≡ Or → truth_at s n ≡ some_of (told_by (places_at s n))
  some_is n h is_or = settled.values n h ∙ ap (λ (k : Kind). value_of k (told_by (places_at s n)) (truth_at s n)) is_or

  -- what has a value by definition has it on the board
  pub yes_on : {n : ℕ} → n < length wires.parts → HasYes (given_by wires.parts s) n → truth_at s n ≡ Yes
  yes_on {n = n} h (HasYes.leaf is_leaf e) = sym (ap (λ (k : Kind). leaf_only k (truth_at s n)) is_leaf) ∙ e
  yes_on {n = n} h (HasYes.every is_and each) =
      all_is n h is_and ∙ each_all joins.conjunction (places_at s n) (λ i at. let place : i < length (parts_at wires n) = omega (arith, are.places n) in
      told_is n i place ∙ yes_on (omega (arith, wired.earlier n i (place_of n i place))) (each i place))
  yes_on {n = n} h (HasYes.some {i = i} is_or place has) =
      some_is n h is_or ∙ any_some joins.disjunction (places_at s n) i (omega (arith, are.places n)) (told_is n i place ∙ yes_on (omega (arith, wired.earlier n i (place_of n i place))) has)

  pub no_on : {n : ℕ} → n < length wires.parts → HasNo (given_by wires.parts s) n → truth_at s n ≡ No
  no_on {n = n} h (HasNo.leaf is_leaf e) = sym (ap (λ (k : Kind). leaf_only k (truth_at s n)) is_leaf) ∙ e
  no_on {n = n} h (HasNo.every is_or each) =
      some_is n h is_or ∙ each_all joins.disjunction (places_at s n) (λ i at. let place : i < length (parts_at wires n) = omega (arith, are.places n) in
      told_is n i place ∙ no_on (omega (arith, wired.earlier n i (place_of n i place))) (each i place))
  no_on {n = n} h (HasNo.some {i = i} is_and place has) =
      all_is n h is_and ∙ any_some joins.conjunction (places_at s n) i (omega (arith, are.places n)) (told_is n i place ∙ no_on (omega (arith, wired.earlier n i (place_of n i place))) has)

  -- what has a value on the board has it by definition
  pub yes_by : (fuel n : ℕ) → n < fuel → n < length wires.parts → truth_at s n ≡ Yes → HasYes (given_by wires.parts s) n
  yes_by zero n less h e = absurd (omega arith)
  yes_by (suc fuel) n less h e = go (yes_by fuel) (kind_at s n) refl
    where
      go : ((m : ℕ) → m < fuel → m < length wires.parts → truth_at s m ≡ Yes → HasYes (given_by wires.parts s) m) → (k : Kind) → kind_at s n ≡ k → HasYes (given_by wires.parts s) n
      go again Leaf is = HasYes.leaf is (ap (λ (k : Kind). leaf_only k (truth_at s n)) is ∙ e)
      go again And is = HasYes.every is (λ i place. again (part_at wires n i) (omega (arith, wired.earlier n i (place_of n i place))) (omega (arith, wired.earlier n i (place_of n i place)))
          (sym (told_is n i place) ∙ all_each joins.conjunction (places_at s n) (sym (all_is n h is) ∙ e) i (omega (arith, are.places n))))
      go again Or is = let found = some_any joins.disjunction (places_at s n) (sym (some_is n h is) ∙ e) in
          let place : found.0 < length (parts_at wires n) = omega (arith, are.places n, found.1) in
          HasYes.some {i = found.0} is place (again (part_at wires n found.0) (omega (arith, wired.earlier n found.0 (place_of n found.0 place))) (omega (arith, wired.earlier n found.0 (place_of n found.0 place)))
          (sym (told_is n found.0 place) ∙ found.2))

  pub no_by : (fuel n : ℕ) → n < fuel → n < length wires.parts → truth_at s n ≡ No → HasNo (given_by wires.parts s) n
  no_by zero n less h e = absurd (omega arith)
  no_by (suc fuel) n less h e = go (no_by fuel) (kind_at s n) refl
    where
      go : ((m : ℕ) → m < fuel → m < length wires.parts → truth_at s m ≡ No → HasNo (given_by wires.parts s) m) → (k : Kind) → kind_at s n ≡ k → HasNo (given_by wires.parts s) n
      go again Leaf is = HasNo.leaf is (ap (λ (k : Kind). leaf_only k (truth_at s n)) is ∙ e)
      go again Or is = HasNo.every is (λ i place. again (part_at wires n i) (omega (arith, wired.earlier n i (place_of n i place))) (omega (arith, wired.earlier n i (place_of n i place)))
          (sym (told_is n i place) ∙ all_each joins.disjunction (places_at s n) (sym (some_is n h is) ∙ e) i (omega (arith, are.places n))))
      go again And is = let found = some_any joins.conjunction (places_at s n) (sym (all_is n h is) ∙ e) in
          let place : found.0 < length (parts_at wires n) = omega (arith, are.places n, found.1) in
          HasNo.some {i = found.0} is place (again (part_at wires n found.0) (omega (arith, wired.earlier n found.0 (place_of n found.0 place))) (omega (arith, wired.earlier n found.0 (place_of n found.0 place)))
          (sym (told_is n found.0 place) ∙ found.2))

  -- each node's value on the board is the one that is defined
  pub value_exact : (n : ℕ) → n < length wires.parts → HasValue (given_by wires.parts s) n (truth_at s n)
  value_exact n h = go (truth_at s n) refl
    where
      go : (t : Truth) → truth_at s n ≡ t → HasValue (given_by wires.parts s) n t
      go Yes e = yes_by (suc n) n (omega arith) h e
      go No e = no_by (suc n) n (omega arith) h e
      go Unset e = (λ has. let f = yes_on h has in cc, λ has. let f = no_on h has in cc)
