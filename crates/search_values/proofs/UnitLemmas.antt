-- Units, open and stuck disjunctions of a settled board are those that are defined.
use Rattle.std.proofs.Common.{zero, suc, ◌≡◌, ◌<◌, inl, inr, ℕ, Bool, true, false, ◌&&◌, not, ◌==◌, List, [], ◌∷◌, length, slice_index_or, refl, sym, ◌∙◌, ap, arith}
use Rattle.std.proofs.lemmas.Bool.{eqb-true}
use Rattle.formula_truth.specs.declared.truth.Truth.{Truth}
use Rattle.formula_truth.specs.declared.truth.Truth.TheVariants.{Yes, No, Unset}
use Rattle.formula_truth.specs.Joins.{AreJoins}
use Rattle.search_board.specs.declared.kind.Kind.{Kind}
use Rattle.search_board.specs.declared.kind.Kind.TheVariants.{Leaf, And, Or}
use Rattle.search_board.specs.declared.place.Place.{Place}
use Rattle.search_board.specs.declared.counts.Counts.{Counts}
use Rattle.formula_truth.specs.Truths.{is_yes_value, is_no_value}
use Rattle.search_board.specs.Places.{is_left_place, is_fresh_place, counts_of, unit_test, open_test, stuck_test}
use Rattle.search_board.specs.Board.{Shown, blank, kind_at, truth_at, asserted_at, places_at, place_at, unit_at, open_at, stuck_at}
use Rattle.search_values.specs.Wiring.{Wires, IsWired, parts_at, part_at}
use Rattle.search_values.specs.Settled.{AreWires, IsSettled}
use Rattle.search_values.specs.Given.{HasYes, IsLeftOver, HasNoYesPart, IsUnit, IsOpen, IsStuck}
use Rattle.search_values.specs.GivenBy.{given_by}
use Rattle.search_values.proofs.PassLemmas.{and_true, true_or_false, none_pass, count_none, some_pass, one_passes, count_one}
use Rattle.search_values.proofs.ValueLemmas.{place_of, told_is, taken_is, some_is, yes_on, no_on, yes_by, no_by, some_any}

-- ---- the tests, opened

pub record OpenCase (kind : Kind) (truth : Truth) (asserted : Bool) : Type 0 where
  pub is_or : kind ≡ Or
  pub is_asserted : asserted ≡ true
  pub not_yes : is_yes_value truth ≡ false

not_true : (b : Bool) → not b ≡ true → b ≡ false
not_true false e = refl
not_true true e = cc

not_false : (b : Bool) → b ≡ false → not b ≡ true
not_false false e = refl
not_false true e = cc

pub open_case : (kind : Kind) (truth : Truth) (asserted : Bool) → open_test kind truth asserted ≡ true → OpenCase kind truth asserted
open_case Leaf truth asserted e = cc
open_case And truth asserted e = cc
open_case Or truth asserted e = let both = and_true asserted (not (is_yes_value truth)) e in record { is_or = refl; is_asserted = both.0; not_yes = not_true _ both.1 }

pub open_back : (kind : Kind) (truth : Truth) (asserted : Bool) → kind ≡ Or → asserted ≡ true → is_yes_value truth ≡ false → open_test kind truth asserted ≡ true
open_back kind truth asserted is_or is_asserted not_yes = rw (is_or, is_asserted, not_yes) refl

pub unit_case : (kind : Kind) (truth : Truth) (asserted : Bool) (counts : Counts) → unit_test kind truth asserted counts ≡ true → OpenCase kind truth asserted × (counts.left ≡ 1) × (counts.fresh ≡ 1)
unit_case Leaf truth asserted counts e = cc
unit_case And truth asserted counts e = cc
unit_case Or truth asserted counts e =
    let last = and_true ((asserted && not (is_yes_value truth)) && (counts.left == 1)) (counts.fresh == 1) e in
    let middle = and_true (asserted && not (is_yes_value truth)) (counts.left == 1) last.0 in
    (open_case Or truth asserted middle.0, eqb-true _ _ middle.1, eqb-true _ _ last.1)

pub unit_back : (kind : Kind) (truth : Truth) (asserted : Bool) (counts : Counts) → kind ≡ Or → asserted ≡ true → is_yes_value truth ≡ false → counts.left ≡ 1 → counts.fresh ≡ 1 → unit_test kind truth asserted counts ≡ true
unit_back kind truth asserted counts is_or is_asserted not_yes left fresh = rw (is_or, is_asserted, not_yes, left, fresh) refl

pub stuck_case : (kind : Kind) (asserted : Bool) (counts : Counts) → stuck_test kind asserted counts ≡ true → (kind ≡ Or) × (asserted ≡ true) × (counts.left ≡ 0)
stuck_case Leaf asserted counts e = cc
stuck_case And asserted counts e = cc
stuck_case Or asserted counts e = let both = and_true asserted (counts.left == 0) e in (refl, both.0, eqb-true _ _ both.1)

pub stuck_back : (kind : Kind) (asserted : Bool) (counts : Counts) → kind ≡ Or → asserted ≡ true → counts.left ≡ 0 → stuck_test kind asserted counts ≡ true
stuck_back kind asserted counts is_or is_asserted left = rw (is_or, is_asserted, left) refl

not_yes_value : (t : Truth) → (t ≡ Yes → ⊥) → is_yes_value t ≡ false
not_yes_value Yes not_yes = absurd (not_yes refl)
not_yes_value No not_yes = refl
not_yes_value Unset not_yes = refl

yes_value_not : (t : Truth) → is_yes_value t ≡ false → t ≡ Yes → ⊥
yes_value_not t e f = let g = ap is_yes_value f in cc

not_no_value : (t : Truth) → (t ≡ No → ⊥) → is_no_value t ≡ false
not_no_value No not_no = absurd (not_no refl)
not_no_value Yes not_no = refl
not_no_value Unset not_no = refl

no_value_not : (t : Truth) → is_no_value t ≡ false → t ≡ No → ⊥
no_value_not t e f = let g = ap is_no_value f in cc

-- ---- what is left over

module _ (joins : AreJoins) (wires : Wires) (s : Shown) (wired : IsWired wires) (are : AreWires wires s) (settled : IsSettled wires s) where
  pub left_by : (n i : ℕ) → i < length (places_at s n) → is_left_place (place_at s n i) ≡ true → IsLeftOver (given_by wires.parts s) n i
  left_by n i h e =
      let place : i < length (parts_at wires n) = omega (arith, are.places n) in
      let at = place_of joins wires s wired are settled n i place in
      let both = and_true (not (is_no_value (place_at s n i).told)) (not (place_at s n i).struck) e in
      record {
        place = place;
        not_no = λ has. no_value_not (place_at s n i).told (not_true _ both.0) (told_is joins wires s wired are settled n i place ∙ no_on joins wires s wired are settled (omega (arith, wired.earlier n i at, at.node)) has);
        not_struck = not_true _ both.1;
      }

  pub left_on : (n i : ℕ) → IsLeftOver (given_by wires.parts s) n i → is_left_place (place_at s n i) ≡ true
  left_on n i left =
      let at = place_of joins wires s wired are settled n i left.place in
      let part = part_at wires n i in
      let not_no = not_no_value (place_at s n i).told (λ e. left.not_no (no_by joins wires s wired are settled (suc part) part (omega arith) (omega (arith, wired.earlier n i at, at.node)) (sym (told_is joins wires s wired are settled n i left.place) ∙ e))) in
      rw (not_no, left.not_struck) refl

  fresh_left : (place : Place) → is_fresh_place place ≡ true → (is_left_place place ≡ true) × (place.taken ≡ false)
  fresh_left place e = let both = and_true (is_left_place place) (not place.taken) e in (both.0, not_true _ both.1)

  -- ---- open disjunctions

  pub no_yes_by : (n : ℕ) → n < length wires.parts → kind_at s n ≡ Or → is_yes_value (truth_at s n) ≡ false → HasNoYesPart (given_by wires.parts s) n
  no_yes_by n h is_or not_yes i place has = yes_value_not (truth_at s n) not_yes (yes_on joins wires s wired are settled h (HasYes.some {i = i} is_or place has))

  pub no_yes_on : (n : ℕ) → n < length wires.parts → kind_at s n ≡ Or → HasNoYesPart (given_by wires.parts s) n → is_yes_value (truth_at s n) ≡ false
  no_yes_on n h is_or none = not_yes_value (truth_at s n) (λ e.
      let found = some_any joins.disjunction (places_at s n) (sym (some_is joins wires s wired are settled n h is_or) ∙ e) in
      let place : found.0 < length (parts_at wires n) = omega (arith, are.places n, found.1) in
      let at = place_of joins wires s wired are settled n found.0 place in
      let part = part_at wires n found.0 in
      none found.0 place (yes_by joins wires s wired are settled (suc part) part (omega arith) (omega (arith, wired.earlier n found.0 at, at.node)) (sym (told_is joins wires s wired are settled n found.0 place) ∙ found.2)))

  -- a disjunction stands
  pub or_stands : (n : ℕ) → kind_at s n ≡ Or → n < length wires.parts
  or_stands n e = let lt = stands s.kinds n e in omega (arith, lt, are.nodes)
    where
      stands : (ks : List Kind) (m : ℕ) → slice_index_or ks m Leaf ≡ Or → m < length ks
      stands [] m e = cc
      stands (k ∷ ks) zero e = omega arith
      stands (k ∷ ks) (suc m) e = omega (arith, stands ks m e)

  pub open_by : (n : ℕ) → open_at s n ≡ true → IsOpen (given_by wires.parts s) n
  open_by n e = let o = open_case (kind_at s n) (truth_at s n) (asserted_at s n) e in
      record { is_or = record { is_or = o.is_or; asserted = o.is_asserted }; no_yes = no_yes_by n (or_stands n o.is_or) o.is_or o.not_yes }

  pub open_on : (n : ℕ) → IsOpen (given_by wires.parts s) n → open_at s n ≡ true
  open_on n o = open_back (kind_at s n) (truth_at s n) (asserted_at s n) o.is_or.is_or o.is_or.asserted (no_yes_on n (or_stands n o.is_or.is_or) o.is_or.is_or o.no_yes)

  -- ---- units

  pub unit_by : (n i : ℕ) → i < length (places_at s n) → is_left_place (place_at s n i) ≡ true → unit_at s n ≡ true → IsUnit (given_by wires.parts s) n i
  unit_by n i h left e =
      let u = unit_case (kind_at s n) (truth_at s n) (asserted_at s n) (counts_of (places_at s n)) e in
      let o = u.0 in
      let fresh = some_pass is_fresh_place blank (places_at s n) (omega (arith, u.2)) in
      let fresh_is = fresh_left (place_at s n fresh.0) fresh.2 in
      let same = one_passes is_left_place blank (places_at s n) u.1 fresh.0 i fresh.1 h fresh_is.0 left in
      let taken = sym (ap (λ k. (place_at s n k).taken) same) ∙ fresh_is.1 in
      record {
        is_or = record { is_or = o.is_or; asserted = o.is_asserted };
        no_yes = no_yes_by n (or_stands n o.is_or) o.is_or o.not_yes;
        left = left_by n i h left;
        only = λ j other. one_passes is_left_place blank (places_at s n) u.1 j i (omega (arith, are.places n, other.place)) h (left_on n j other) left;
        not_asserted = sym (taken_is joins wires s wired are settled n i (omega (arith, are.places n))) ∙ taken;
      }

  pub unit_on : (n i : ℕ) → IsUnit (given_by wires.parts s) n i → unit_at s n ≡ true
  unit_on n i u =
      let h : i < length (places_at s n) = omega (arith, are.places n, u.left.place) in
      let left = left_on n i u.left in
      let not_taken = taken_is joins wires s wired are settled n i u.left.place ∙ u.not_asserted in
      let fresh : is_fresh_place (place_at s n i) ≡ true = rw (left, not_taken) refl in
      unit_back (kind_at s n) (truth_at s n) (asserted_at s n) (counts_of (places_at s n)) u.is_or.is_or u.is_or.asserted (no_yes_on n (or_stands n u.is_or.is_or) u.is_or.is_or u.no_yes)
      (count_one is_left_place blank (places_at s n) i h left (λ j hj e. u.only j (left_by n j hj e)))
      (count_one is_fresh_place blank (places_at s n) i h fresh (λ j hj e. u.only j (left_by n j hj (fresh_left (place_at s n j) e).0)))

  -- ---- stuck disjunctions

  pub stuck_by : (n : ℕ) → stuck_at s n ≡ true → IsStuck (given_by wires.parts s) n
  stuck_by n e = let k = stuck_case (kind_at s n) (asserted_at s n) (counts_of (places_at s n)) e in record {
    is_or = record { is_or = k.0; asserted = k.1 };
    none = λ i left. let f = none_pass is_left_place blank (places_at s n) k.2 i (omega (arith, are.places n, left.place)) in let g = left_on n i left in absurd (cc);
  }

  pub stuck_on : (n : ℕ) → IsStuck (given_by wires.parts s) n → stuck_at s n ≡ true
  stuck_on n k = stuck_back (kind_at s n) (asserted_at s n) (counts_of (places_at s n)) k.is_or.is_or k.is_or.asserted
      (count_none is_left_place blank (places_at s n) (λ i h. elim (true_or_false (is_left_place (place_at s n i))) [
        | inl left ↦ absurd (k.none i (left_by n i h left))
        | inr not ↦ not
      ]))
