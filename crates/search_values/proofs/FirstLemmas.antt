-- The first unit, the first stuck and the first open disjunction.
use Rattle.std.proofs.Common.{zero, suc, ◌≡◌, ◌<◌, ◌⊎◌, inl, inr, ℕ, Bool, true, false, List, [], ◌∷◌, length, slice_set, slice_index_or, count_by, refl, sym, ◌∙◌, ap, subst, arith}
use Rattle.std.proofs.Math.ListN.{length-set}
use Rattle.formula_truth.specs.declared.truth.Truth.{Truth}
use Rattle.formula_truth.specs.Joins.{AreJoins}
use Rattle.search_board.specs.declared.kind.Kind.{Kind}
use Rattle.search_board.specs.declared.kind.Kind.TheVariants.{Or}
use Rattle.formula_truth.specs.declared.truth.Truth.TheVariants.{Yes, No, Unset}
use Rattle.search_board.specs.declared.place.Place.{Place}
use Rattle.search_board.specs.Places.{is_left_place, counts_of, open_test}
use Rattle.search_board.specs.Values.{value_of}
use Rattle.search_board.specs.Board.{Shown, blank, kind_at, truth_at, asserted_at, places_at, place_at, with_place, unit_at, open_at, stuck_at, NonePasses, IsFirstPassing}
use Rattle.search_values.specs.Wiring.{Wires, part_at}
use Rattle.search_values.specs.Settled.{told_by, Grows}
use Rattle.search_values.specs.Given.{Given, kind_of, HasYes, HasYesPart, IsAssertedOr, IsFirstUnit, IsUnit, IsOpen, IsSplit, IsStuck}
use Rattle.search_values.specs.GivenBy.{given_by}
use Rattle.search_values.specs.KeptInside.{IsRight}
use Rattle.search_values.proofs.ListLemmas.{get-set_same, get-set_other, same_or_not, list_within}
use Rattle.search_values.proofs.ValueLemmas.{yes_by}
use Rattle.search_values.proofs.UnitLemmas.{or_stands, unit_case, unit_by, unit_on, open_back, open_case, open_by, open_on, stuck_back, stuck_by, stuck_on, left_by, left_on}

-- a disjunction that is Yes has a Yes part
yes_part : (given : Given) (n : ℕ) → kind_of given n ≡ Or → HasYes given n → HasYesPart given n
yes_part given n is_or (HasYes.leaf is_leaf e) = cc
yes_part given n is_or (HasYes.every is_and each) = cc
yes_part given n is_or (HasYes.some {i = i} is place has) = (i, place, has)

-- an asserted disjunction that is not open is Yes
yes_else : (kind : Kind) (truth : Truth) (asserted : Bool) → kind ≡ Or → asserted ≡ true →
    open_test kind truth asserted ≡ false → truth ≡ Yes
yes_else kind Yes asserted is_or is_asserted e = refl
yes_else kind No asserted is_or is_asserted e = let f = open_back kind No asserted is_or is_asserted refl in cc
yes_else kind Unset asserted is_or is_asserted e = let f = open_back kind Unset asserted is_or is_asserted refl in cc

module _ (joins : AreJoins) (wires : Wires) (s : Shown) (right : IsRight wires s) where
  pub unit_has_left : (n : ℕ) → unit_at s n ≡ true → 0 < count_by is_left_place (places_at s n)
  unit_has_left n e = omega (arith, (unit_case (kind_at s n) (truth_at s n) (asserted_at s n) (counts_of (places_at s n)) e).1)

  pub first_unit_is : (n i : ℕ) → IsFirstPassing (unit_at s) n → i < length (places_at s n) → is_left_place (place_at s n i) ≡ true → IsFirstUnit (given_by wires.parts s) n i
  first_unit_is n i first within left = record {
    is_unit = unit_by joins wires s right.wired right.are right.settled n i within left first.passes;
    first = λ m j lt unit. differ (unit_at s m) (unit_on joins wires s right.wired right.are right.settled m j unit) (first.first m lt);
  }
    where
      differ : (b : Bool) → b ≡ true → b ≡ false → ⊥
      differ b p q = cc

  pub no_unit : NonePasses (unit_at s) → (n i : ℕ) → IsUnit (given_by wires.parts s) n i → ⊥
  no_unit none n i unit = let e = unit_on joins wires s right.wired right.are right.settled n i unit in let f = none n in cc

  pub no_stuck : NonePasses (stuck_at s) → (n : ℕ) → IsStuck (given_by wires.parts s) n → ⊥
  no_stuck none n stuck = let e = stuck_on joins wires s right.wired right.are right.settled n stuck in let f = none n in cc

  pub no_open : NonePasses (open_at s) → (n : ℕ) → IsOpen (given_by wires.parts s) n → ⊥
  no_open none n is = let e = open_on joins wires s right.wired right.are right.settled n is in let f = none n in cc

  -- where none is open each has a Yes part
  pub each_yes : NonePasses (open_at s) → (n : ℕ) → IsAssertedOr (given_by wires.parts s) n → HasYesPart (given_by wires.parts s) n
  each_yes none n is =
      let within = or_stands joins wires s right.wired right.are right.settled n is.is_or in
      let e = yes_else (kind_at s n) (truth_at s n) (asserted_at s n) is.is_or is.asserted (none n) in
      yes_part (given_by wires.parts s) n is.is_or
      (yes_by joins wires s right.wired right.are right.settled (suc n) n (omega arith) within e)

  -- an open disjunction that isn't stuck has something left over
  pub open_has_left : ((n : ℕ) → IsStuck (given_by wires.parts s) n → ⊥) → (n : ℕ) → open_at s n ≡ true → 0 < count_by is_left_place (places_at s n)
  open_has_left quiet n e = elim (some_or_none (count_by is_left_place (places_at s n))) [
    | inl none ↦ let o = open_case (kind_at s n) (truth_at s n) (asserted_at s n) e in
        absurd (quiet n (stuck_by joins wires s right.wired right.are right.settled n (stuck_back (kind_at s n) (asserted_at s n) (counts_of (places_at s n)) o.is_or o.is_asserted none)))
    | inr some ↦ some
  ]
    where
      some_or_none : (k : ℕ) → (k ≡ 0) ⊎ (0 < k)
      some_or_none k = search arith

  pub split_is : (n i : ℕ) → IsFirstPassing (open_at s) n → i < length (places_at s n) → is_left_place (place_at s n i) ≡ true → ((j : ℕ) → j < i → is_left_place (place_at s n j) ≡ false) → IsSplit (given_by wires.parts s) n i
  split_is n i first within left before = record {
    is_open = open_by joins wires s right.wired right.are right.settled n first.passes;
    first = λ m lt is. differ (open_at s m) (open_on joins wires s right.wired right.are right.settled m is) (first.first m lt);
    left = left_by joins wires s right.wired right.are right.settled n i within left;
    first_left = λ j lt is. differ (is_left_place (place_at s n j)) (left_on joins wires s right.wired right.are right.settled n j is) (before j lt);
  }
    where
      differ : (b : Bool) → b ≡ true → b ≡ false → ⊥
      differ b p q = cc

-- ---- a place is struck

told-set : (places : List Place) (i : ℕ) (new : Place) → new.told ≡ (slice_index_or places i blank).told → told_by (slice_set places i new) ≡ told_by places
told-set [] i new e = refl
told-set (p ∷ ps) zero new e = ap (λ t. t ∷ told_by ps) e
told-set (p ∷ ps) (suc i) new e = ap (λ ts. p.told ∷ ts) (told-set ps i new e)

abbrev pub striking : Shown → ℕ → ℕ → Place
striking s n i = record { told = (place_at s n i).told; taken = (place_at s n i).taken; struck = true }

module _ (wires : Wires) (s : Shown) (right : IsRight wires s) (n i : ℕ) (within : i < length (places_at s n)) where
  after : Shown
  after = with_place s n i (striking s n i)

  places_is : places_at (with_place s n i (striking s n i)) n ≡ slice_set (places_at s n) i (striking s n i)
  places_is = get-set_same s.places n (slice_set (places_at s n) i (striking s n i)) [] (list_within s.places n i within)

  lengths : (m : ℕ) → length (places_at (with_place s n i (striking s n i)) m) ≡ length (places_at s m)
  lengths m = elim (same_or_not m n) [
    | inl same ↦ ap (λ k. length (places_at (with_place s n i (striking s n i)) k)) same ∙ ap length places_is ∙ length-set (places_at s n) i (striking s n i) ∙ ap (λ k. length (places_at s k)) (sym same)
    | inr other ↦ ap length (get-set_other s.places n m (slice_set (places_at s n) i (striking s n i)) [] other)
  ]

  told_same : (m : ℕ) → told_by (places_at (with_place s n i (striking s n i)) m) ≡ told_by (places_at s m)
  told_same m = elim (same_or_not m n) [
    | inl same ↦ ap (λ k. told_by (places_at (with_place s n i (striking s n i)) k)) same ∙ ap told_by places_is ∙ told-set (places_at s n) i (striking s n i) refl ∙ ap (λ k. told_by (places_at s k)) (sym same)
    | inr other ↦ ap told_by (get-set_other s.places n m (slice_set (places_at s n) i (striking s n i)) [] other)
  ]

  -- the place tells what it did
  tells_same : (m j : ℕ) → ((place_at (with_place s n i (striking s n i)) m j).told ≡ (place_at s m j).told) × ((place_at (with_place s n i (striking s n i)) m j).taken ≡ (place_at s m j).taken)
  tells_same m j = elim (same_or_not m n) [
    | inl same ↦ elim (same_or_not j i) [
      | inl here ↦ let e = ap (λ k. place_at (with_place s n i (striking s n i)) k j) same ∙ ap (λ xs. slice_index_or xs j blank) places_is ∙ ap (λ k. slice_index_or (slice_set (places_at s n) i (striking s n i)) k blank) here ∙ get-set_same (places_at s n) i (striking s n i) blank within in
          let f = ap (λ k. place_at s k j) same ∙ ap (λ k. place_at s n k) here in
          (ap (λ (p : Place). p.told) e ∙ sym (ap (λ (p : Place). p.told) f), ap (λ (p : Place). p.taken) e ∙ sym (ap (λ (p : Place). p.taken) f))
      | inr there ↦ let e = ap (λ k. place_at (with_place s n i (striking s n i)) k j) same ∙ ap (λ xs. slice_index_or xs j blank) places_is ∙ get-set_other (places_at s n) i j (striking s n i) blank there ∙ ap (λ k. place_at s k j) (sym same) in
          (ap (λ (p : Place). p.told) e, ap (λ (p : Place). p.taken) e)
    ]
    | inr other ↦ let e = ap (λ xs. slice_index_or xs j blank) (get-set_other s.places n m (slice_set (places_at s n) i (striking s n i)) [] other) in
        (ap (λ (p : Place). p.told) e, ap (λ (p : Place). p.taken) e)
  ]

  pub struck_right : IsRight wires (with_place s n i (striking s n i))
  struck_right = record {
    wired = right.wired;
    are = record {
      aligned = record {
        truths = right.are.aligned.truths;
        asserted = right.are.aligned.asserted;
        places = length-set s.places n (slice_set (places_at s n) i (striking s n i)) ∙ right.are.aligned.places;
        few = right.are.aligned.few;
        few_places = λ m. omega (arith, lengths m, right.are.aligned.few_places m);
      };
      nodes = right.are.nodes;
      places = λ m. lengths m ∙ right.are.places m;
    };
    settled = record {
      past = λ m j at. let T : Truth → Type 0 = λ t. Grows t (truth_at s (part_at wires m j)) in subst T (sym (tells_same m j).0) (right.settled.past m j at);
      told = λ m j at. elim (right.settled.told m j at) [
        | inl waits ↦ inl waits
        | inr up_to_date ↦ inr (record { told = (tells_same m j).0 ∙ up_to_date.told; taken = (tells_same m j).1 ∙ up_to_date.taken })
      ];
      values = λ m at. right.settled.values m at ∙ ap (λ (ts : List Truth). value_of (kind_at s m) ts (truth_at s m)) (sym (told_same m));
    };
  }
