-- What the changes of a board keep.
use Rattle.std.proofs.Common.{◌≡◌, ℕ, zero, suc, ◌+◌, ◌-◌, ◌^◌, ◌<◌, ◌≤◌, ◌⊎◌, inl, inr, Bool, true, false, List, [], ◌∷◌, ◌++◌, length, take, length-append, slice_get, slice_index_or, slice_set, Some, count_by, replicate, lit<, if◌then◌else◌, refl, sym, ap, ◌∙◌, arith}
use Rattle.std.proofs.lemmas.List.Sums.{sum_by-set, sum_by-cons, sum_by_push, count_by-le-length}
use Rattle.std.proofs.lemmas.List.{take_more, get_or-replicate, get_or_past, length-replicate}
use Rattle.std.proofs.Math.Nat.{pow-le-pow_right}
use Rattle.std.proofs.Math.ListN.{length-set}
use Rattle.formula_truth.specs.declared.truth.Truth.{Truth}
use Rattle.formula_truth.specs.declared.truth.Truth.TheVariants.{Unset}
use Rattle.search_board.specs.declared.kind.Kind.{Kind}
use Rattle.search_board.specs.declared.kind.Kind.TheVariants.{Leaf, And, Or}
use Rattle.search_board.specs.declared.place.Place.{Place}
use Rattle.search_board.specs.declared.counts.Counts.{Counts}
use Rattle.search_board.specs.Places.{is_yes_place, is_no_place, is_left_place, is_fresh_place, one_if, counts_of, count_after, count_more, FitsChange, CanCount, unit_test, open_test, stuck_test}
use Rattle.search_board.specs.Board.{Shown, no_nodes, blank, kind_at, truth_at, asserted_at, places_at, place_at, with_truth, with_asserted, with_place, with_node, without_node, unit_at, open_at, stuck_at}
use Rattle.search_board.specs.declared.sets.Sets.{Sets}
use Rattle.search_board.specs.Sets.{AreAlike, IsWider, HaveSameMembers}
use Rattle.search_board.specs.BoardInside.{no_counts, AreMembers, IsSoundBoard}

-- ---- reads after a write

pub get-set_same : {A : Type 0} (xs : List A) (i : ℕ) (y d : A) → i < length xs → slice_index_or (slice_set xs i y) i d ≡ y
get-set_same [] i y d h = absurd (omega arith)
get-set_same (x ∷ xs) zero y d h = refl
get-set_same (x ∷ xs) (suc i) y d h = get-set_same xs i y d (omega arith)

pub get-set_other : {A : Type 0} (xs : List A) (i j : ℕ) (y d : A) → (j ≡ i → ⊥) → slice_index_or (slice_set xs i y) j d ≡ slice_index_or xs j d
get-set_other [] i j y d ne = refl
get-set_other (x ∷ xs) zero zero y d ne = absurd (ne refl)
get-set_other (x ∷ xs) zero (suc j) y d ne = refl
get-set_other (x ∷ xs) (suc i) zero y d ne = refl
get-set_other (x ∷ xs) (suc i) (suc j) y d ne = get-set_other xs i j y d (λ e. ne (ap suc e))

pub same_default : {A : Type 0} (xs : List A) (i : ℕ) (d e : A) → i < length xs → slice_index_or xs i d ≡ slice_index_or xs i e
same_default [] i d e h = absurd (omega arith)
same_default (x ∷ xs) zero d e h = refl
same_default (x ∷ xs) (suc i) d e h = same_default xs i d e (omega arith)

pub get_some : {A : Type 0} (xs : List A) (i : ℕ) (x d : A) → slice_get xs i ≡ Some x → slice_index_or xs i d ≡ x
get_some [] i x d e = cc
get_some (y ∷ ys) zero x d e = cc
get_some (y ∷ ys) (suc i) x d e = get_some ys i x d e

pub same_or_not : (i j : ℕ) → (i ≡ j) ⊎ (i ≡ j → ⊥)
same_or_not i j = search arith

-- ---- a write to a set

pub members_after : (count : ℕ) (old new : ℕ → Bool) (set : List Bool) (n : ℕ) (on : Bool) → AreMembers count old set → n < count → on ≡ new n → ((m : ℕ) → (m ≡ n → ⊥) → new m ≡ old m) → AreMembers count new (slice_set set n on)
members_after count old new set n on members lt is others = record {
  room = omega (arith, members.room, length-set set n on);
  are = λ m. elim (same_or_not m n) [
    | inl same ↦ ap (λ k. slice_index_or (slice_set set n on) k false) same ∙ get-set_same set n on false (omega (arith, members.room)) ∙ is ∙ ap new (sym same)
    | inr other ↦ get-set_other set n m on false other ∙ members.are m ∙ sym (others m other)
  ];
}

pub members_same : (count : ℕ) (old new : ℕ → Bool) (set : List Bool) → AreMembers count old set → ((m : ℕ) → new m ≡ old m) → AreMembers count new set
members_same count old new set members same = record { room = members.room; are = λ m. members.are m ∙ sym (same m) }

-- ---- the tests of equal things

pub unit_same : {k l : Kind} {t u : Truth} {a b : Bool} {c d : Counts} → k ≡ l → t ≡ u → a ≡ b → c ≡ d → unit_test k t a c ≡ unit_test l u b d
unit_same p q r s = cc

pub open_same : {k l : Kind} {t u : Truth} {a b : Bool} → k ≡ l → t ≡ u → a ≡ b → open_test k t a ≡ open_test l u b
open_same p q r = cc

pub stuck_same : {k l : Kind} {a b : Bool} {c d : Counts} → k ≡ l → a ≡ b → c ≡ d → stuck_test k a c ≡ stuck_test l b d
stuck_same p r s = cc

-- ---- the changes

module _ (room : ℕ) (shown : Shown) (counts : List Counts) (units opens stuck : List Bool) (sound : IsSoundBoard room shown counts units opens stuck) (n : ℕ) (lt : n < length shown.kinds) where
  pub sound_truth : (truth : Truth) (unit open' : Bool) → unit ≡ unit_test (kind_at shown n) truth (asserted_at shown n) (counts_of (places_at shown n)) → open' ≡ open_test (kind_at shown n) truth (asserted_at shown n)
      → IsSoundBoard room (with_truth shown n truth) counts (slice_set units n unit) (slice_set opens n open') stuck
  sound_truth truth unit open' is_unit is_open =
      let within : n < length shown.truths = omega (arith, sound.aligned.truths) in
      let here = get-set_same shown.truths n truth Unset within in
      record {
        aligned = record { truths = length-set shown.truths n truth ∙ sound.aligned.truths; asserted = sound.aligned.asserted; places = sound.aligned.places; few = sound.aligned.few; few_places = sound.aligned.few_places };
        within = sound.within;
        small = sound.small;
        len = sound.len;
        counted = sound.counted;
        units = members_after room (unit_at shown) (unit_at (with_truth shown n truth)) units n unit sound.units (omega (arith, lt, sound.within))
            (is_unit ∙ unit_same refl (sym here) refl refl) (λ m other. unit_same refl (get-set_other shown.truths n m truth Unset other) refl refl);
        opens = members_after room (open_at shown) (open_at (with_truth shown n truth)) opens n open' sound.opens (omega (arith, lt, sound.within))
            (is_open ∙ open_same refl (sym here) refl) (λ m other. open_same refl (get-set_other shown.truths n m truth Unset other) refl);
        stuck = sound.stuck;
      }

  pub sound_asserted : (asserted : Bool) (unit open' stuck' : Bool) → unit ≡ unit_test (kind_at shown n) (truth_at shown n) asserted (counts_of (places_at shown n)) → open' ≡ open_test (kind_at shown n) (truth_at shown n) asserted
      → stuck' ≡ stuck_test (kind_at shown n) asserted (counts_of (places_at shown n))
      → IsSoundBoard room (with_asserted shown n asserted) counts (slice_set units n unit) (slice_set opens n open') (slice_set stuck n stuck')
  sound_asserted asserted unit open' stuck' is_unit is_open is_stuck =
      let within : n < length shown.asserted = omega (arith, sound.aligned.asserted) in
      let here = get-set_same shown.asserted n asserted false within in
      record {
        aligned = record { truths = sound.aligned.truths; asserted = length-set shown.asserted n asserted ∙ sound.aligned.asserted; places = sound.aligned.places; few = sound.aligned.few; few_places = sound.aligned.few_places };
        within = sound.within;
        small = sound.small;
        len = sound.len;
        counted = sound.counted;
        units = members_after room (unit_at shown) (unit_at (with_asserted shown n asserted)) units n unit sound.units (omega (arith, lt, sound.within))
            (is_unit ∙ unit_same refl refl (sym here) refl) (λ m other. unit_same refl refl (get-set_other shown.asserted n m asserted false other) refl);
        opens = members_after room (open_at shown) (open_at (with_asserted shown n asserted)) opens n open' sound.opens (omega (arith, lt, sound.within))
            (is_open ∙ open_same refl refl (sym here)) (λ m other. open_same refl refl (get-set_other shown.asserted n m asserted false other));
        stuck = members_after room (stuck_at shown) (stuck_at (with_asserted shown n asserted)) stuck n stuck' sound.stuck (omega (arith, lt, sound.within))
            (is_stuck ∙ stuck_same refl (sym here) refl) (λ m other. stuck_same refl (get-set_other shown.asserted n m asserted false other) refl);
      }

-- ---- counts of changed places

one_is : (b : Bool) → one_if b ≡ (if b then 1 else 0)
one_is true = refl
one_is false = refl

count-set : (p : Place → Bool) (xs : List Place) (i : ℕ) (y d : Place) → i < length xs → count_by p (slice_set xs i y) + one_if (p (slice_index_or xs i d)) ≡ count_by p xs + one_if (p y)
count-set p xs i y d h =
    let e = sum_by-set (λ x. if p x then 1 else 0) xs i y d h in
    let a = one_is (p (slice_index_or xs i d)) in
    let b = one_is (p y) in
    omega (arith, e, a, b)

one-le-count : (p : Place → Bool) (xs : List Place) (i : ℕ) (d : Place) → i < length xs → one_if (p (slice_index_or xs i d)) ≤ count_by p xs
one-le-count p [] i d h = absurd (omega arith)
one-le-count p (x ∷ xs) zero d h = omega (arith, sum_by-cons (λ x. if p x then 1 else 0) x xs, one_is (p x))
one-le-count p (x ∷ xs) (suc i) d h = omega (arith, sum_by-cons (λ x. if p x then 1 else 0) x xs, one-le-count p xs i d (omega arith))

-- what a count of changed places is
pub count_changes : (p : Place → Bool) (xs : List Place) (i : ℕ) (y d : Place) → i < length xs → length xs < 2 ^ 32 → FitsChange (count_by p xs) (p (slice_index_or xs i d)) (p y)
count_changes p xs i y d h few = record { counted = one-le-count p xs i d h; fits = omega (arith, count-set p xs i y d h, one-le-count p xs i d h, count_by-le-length p (slice_set xs i y), length-set xs i y) }

pub count_changed : (p : Place → Bool) (xs : List Place) (i : ℕ) (y d : Place) → i < length xs → count_by p (slice_set xs i y) ≡ count_by p xs - one_if (p (slice_index_or xs i d)) + one_if (p y)
count_changed p xs i y d h = omega (arith, count-set p xs i y d h, one-le-count p xs i d h)

pub can_count : (xs : List Place) (i : ℕ) (y d : Place) → i < length xs → length xs < 2 ^ 32 → CanCount (counts_of xs) (slice_index_or xs i d) y
can_count xs i y d h few = record {
  yes = count_changes is_yes_place xs i y d h few;
  no = count_changes is_no_place xs i y d h few;
  left = count_changes is_left_place xs i y d h few;
  fresh = count_changes is_fresh_place xs i y d h few;
}

counts_same : {a b c d e f g h : ℕ} → a ≡ e → b ≡ f → c ≡ g → d ≡ h → (let one : Counts = record { yes = a; no = b; left = c; fresh = d } in let two : Counts = record { yes = e; no = f; left = g; fresh = h } in one ≡ two)
counts_same p q r s = cc

pub counts-set : (xs : List Place) (i : ℕ) (y d : Place) → i < length xs → counts_of (slice_set xs i y) ≡ count_after (counts_of xs) (slice_index_or xs i d) y
counts-set xs i y d h = counts_same (count_changed is_yes_place xs i y d h) (count_changed is_no_place xs i y d h) (count_changed is_left_place xs i y d h) (count_changed is_fresh_place xs i y d h)

-- ---- a place is changed

module _ (room : ℕ) (shown : Shown) (counts : List Counts) (units opens stuck : List Bool) (sound : IsSoundBoard room shown counts units opens stuck) (n : ℕ) (lt : n < length shown.kinds) where
  pub sound_place : (i : ℕ) (place : Place) (after : Counts) (unit stuck' : Bool) → i < length (places_at shown n)
      → after ≡ count_after (counts_of (places_at shown n)) (place_at shown n i) place
      → unit ≡ unit_test (kind_at shown n) (truth_at shown n) (asserted_at shown n) after
      → stuck' ≡ stuck_test (kind_at shown n) (asserted_at shown n) after
      → IsSoundBoard room (with_place shown n i place) (slice_set counts n after) (slice_set units n unit) opens (slice_set stuck n stuck')
  sound_place i place after unit stuck' inside is_after is_unit is_stuck =
      let within : n < length shown.places = omega (arith, sound.aligned.places) in
      let list = slice_set (places_at shown n) i place in
      let here = get-set_same shown.places n list [] within in
      let counted = is_after ∙ sym (counts-set (places_at shown n) i place blank inside) in
      let counted_here : after ≡ counts_of (places_at (with_place shown n i place) n) = counted ∙ ap counts_of (sym here) in
      record {
        aligned = record {
          truths = sound.aligned.truths;
          asserted = sound.aligned.asserted;
          places = length-set shown.places n list ∙ sound.aligned.places;
          few = sound.aligned.few;
          few_places = λ m. elim (same_or_not m n) [
            | inl same ↦ omega (arith, ap length (ap (λ k. places_at (with_place shown n i place) k) same ∙ here), length-set (places_at shown n) i place, sound.aligned.few_places n)
            | inr other ↦ omega (arith, ap length (get-set_other shown.places n m list [] other), sound.aligned.few_places m)
          ];
        };
        within = sound.within;
        small = sound.small;
        len = length-set counts n after ∙ sound.len;
        counted = λ m h. elim (same_or_not m n) [
          | inl same ↦ ap (λ k. slice_index_or (slice_set counts n after) k no_counts) same ∙ get-set_same counts n after no_counts (omega (arith, sound.len)) ∙ counted_here ∙ ap (λ k. counts_of (places_at (with_place shown n i place) k)) (sym same)
          | inr other ↦ get-set_other counts n m after no_counts other ∙ sound.counted m h ∙ ap counts_of (sym (get-set_other shown.places n m list [] other))
        ];
        units = members_after room (unit_at shown) (unit_at (with_place shown n i place)) units n unit sound.units (omega (arith, lt, sound.within))
            (is_unit ∙ unit_same refl refl refl counted_here) (λ m other. unit_same refl refl refl (ap counts_of (get-set_other shown.places n m list [] other)));
        opens = sound.opens;
        stuck = members_after room (stuck_at shown) (stuck_at (with_place shown n i place)) stuck n stuck' sound.stuck (omega (arith, lt, sound.within))
            (is_stuck ∙ stuck_same refl refl counted_here) (λ m other. stuck_same refl refl (ap counts_of (get-set_other shown.places n m list [] other)));
      }

-- ---- counts, place by place

count-push : (p : Place → Bool) (xs : List Place) (y : Place) → count_by p (xs ++ y ∷ []) ≡ count_by p xs + one_if (p y)
count-push p xs y = omega (arith, sum_by_push (λ x. if p x then 1 else 0) xs y, one_is (p y))

pub counts_push : (xs : List Place) (y : Place) → counts_of (xs ++ y ∷ []) ≡ count_more (counts_of xs) y
counts_push xs y = counts_same (count-push is_yes_place xs y) (count-push is_no_place xs y) (count-push is_left_place xs y) (count-push is_fresh_place xs y)

pub counts_step : (xs : List Place) (i : ℕ) (y : Place) → slice_get xs i ≡ Some y → i < length xs → counts_of (take (i + 1) xs) ≡ count_more (counts_of (take i xs)) y
counts_step xs i y e h = ap counts_of (take_more xs i blank h ∙ ap (λ z. take i xs ++ z ∷ []) (get_some xs i y blank e)) ∙ counts_push (take i xs) y

-- ---- a node is entered

get_push : {A : Type 0} (xs : List A) (x d : A) (k : ℕ) → k < length xs → slice_index_or (xs ++ x ∷ []) k d ≡ slice_index_or xs k d
get_push [] x d k h = absurd (omega arith)
get_push (y ∷ ys) x d zero h = refl
get_push (y ∷ ys) x d (suc k) h = get_push ys x d k (omega arith)

get_last : {A : Type 0} (xs : List A) (x d : A) (k : ℕ) → k ≡ length xs → slice_index_or (xs ++ x ∷ []) k d ≡ x
get_last [] x d zero e = refl
get_last [] x d (suc k) e = absurd (omega arith)
get_last (y ∷ ys) x d zero e = absurd (omega arith)
get_last (y ∷ ys) x d (suc k) e = get_last ys x d k (omega arith)

get_past : {A : Type 0} (xs : List A) (x d : A) (k : ℕ) → length xs < k → slice_index_or (xs ++ x ∷ []) k d ≡ d
get_past [] x d zero e = absurd (omega arith)
get_past [] x d (suc k) e = refl
get_past (y ∷ ys) x d zero e = absurd (omega arith)
get_past (y ∷ ys) x d (suc k) e = get_past ys x d k (omega arith)

get_default : {A : Type 0} (xs : List A) (d : A) (k : ℕ) → slice_index_or (xs ++ d ∷ []) k d ≡ slice_index_or xs k d
get_default [] d zero = refl
get_default [] d (suc k) = refl
get_default (y ∷ ys) d zero = refl
get_default (y ∷ ys) d (suc k) = get_default ys d k

length-push : {A : Type 0} (xs : List A) (x : A) → length (xs ++ x ∷ []) ≡ length xs + 1
length-push xs x = length-append xs (x ∷ [])

order : (k n : ℕ) → (k < n) ⊎ ((k ≡ n) ⊎ (n < k))
order k n = search arith

unit_off : (k : Kind) (t : Truth) (a : Bool) (c : Counts) → a ≡ false → unit_test k t a c ≡ false
unit_off Leaf t a c e = refl
unit_off And t a c e = refl
unit_off Or t a c e = rw e refl

open_off : (k : Kind) (t : Truth) (a : Bool) → a ≡ false → open_test k t a ≡ false
open_off Leaf t a e = refl
open_off And t a e = refl
open_off Or t a e = rw e refl

stuck_off : (k : Kind) (a : Bool) (c : Counts) → a ≡ false → stuck_test k a c ≡ false
stuck_off Leaf a c e = refl
stuck_off And a c e = refl
stuck_off Or a c e = rw e refl

past_end : {A : Type 0} (xs : List A) (d : A) (k : ℕ) → length xs ≤ k → slice_index_or xs k d ≡ d
past_end [] d k h = refl
past_end (x ∷ xs) d zero h = absurd (omega arith)
past_end (x ∷ xs) d (suc k) h = past_end xs d k (omega arith)

module _ (room : ℕ) (shown : Shown) (counts : List Counts) (units opens stuck : List Bool) (sound : IsSoundBoard room shown counts units opens stuck) (kind : Kind) (truth : Truth) (places : List Place) (few : length places < 2 ^ 32) (lt : length shown.kinds < room) where
  asserted_same : (m : ℕ) → asserted_at (with_node shown kind truth places) m ≡ asserted_at shown m
  asserted_same m = get_default shown.asserted false m

  off_past : (m : ℕ) → length shown.kinds ≤ m → asserted_at shown m ≡ false
  off_past m h = past_end shown.asserted false m (omega (arith, sound.aligned.asserted))

  kinds_before : (m : ℕ) → m < length shown.kinds → kind_at (with_node shown kind truth places) m ≡ kind_at shown m
  kinds_before m h = get_push shown.kinds kind Leaf m h

  truths_before : (m : ℕ) → m < length shown.kinds → truth_at (with_node shown kind truth places) m ≡ truth_at shown m
  truths_before m h = get_push shown.truths truth Unset m (omega (arith, sound.aligned.truths))

  places_before : (m : ℕ) → m < length shown.kinds → places_at (with_node shown kind truth places) m ≡ places_at shown m
  places_before m h = get_push shown.places places [] m (omega (arith, sound.aligned.places))

  before_or_past : (m : ℕ) → (m < length shown.kinds) ⊎ (length shown.kinds ≤ m)
  before_or_past m = search arith

  pub sound_enter : (entered : Counts) → entered ≡ counts_of places → IsSoundBoard room (with_node shown kind truth places) (counts ++ entered ∷ []) units opens stuck
  sound_enter entered is = record {
    aligned = record {
      truths = omega (arith, length-push shown.truths truth, length-push shown.kinds kind, sound.aligned.truths);
      asserted = omega (arith, length-push shown.asserted false, length-push shown.kinds kind, sound.aligned.asserted);
      places = omega (arith, length-push shown.places places, length-push shown.kinds kind, sound.aligned.places);
      few = omega (arith, length-push shown.kinds kind, sound.small);
      few_places = λ m. elim (order m (length shown.places)) [
        | inl before ↦ omega (arith, ap length (get_push shown.places places [] m before), sound.aligned.few_places m)
        | inr (inl here) ↦ omega (arith, ap length (get_last shown.places places [] m here))
        | inr (inr past) ↦ omega (arith, ap length (get_past shown.places places [] m past))
      ];
    };
    within = omega (arith, length-push shown.kinds kind);
    small = sound.small;
    len = omega (arith, length-push counts entered, length-push shown.kinds kind, sound.len);
    counted = λ m h. elim (order m (length shown.kinds)) [
      | inl before ↦ get_push counts entered no_counts m (omega (arith, sound.len)) ∙ sound.counted m before ∙ ap counts_of (sym (places_before m before))
      | inr (inl here) ↦ get_last counts entered no_counts m (omega (arith, sound.len)) ∙ is ∙ ap counts_of (sym (get_last shown.places places [] m (omega (arith, sound.aligned.places))))
      | inr (inr past) ↦ absurd (omega (arith, length-push shown.kinds kind))
    ];
    units = members_same room (unit_at shown) (unit_at (with_node shown kind truth places)) units sound.units (λ m. elim (before_or_past m) [
      | inl before ↦ unit_same (kinds_before m before) (truths_before m before) (asserted_same m) (ap counts_of (places_before m before))
      | inr past ↦ unit_off _ _ _ _ (asserted_same m ∙ off_past m past) ∙ sym (unit_off _ _ _ _ (off_past m past))
    ]);
    opens = members_same room (open_at shown) (open_at (with_node shown kind truth places)) opens sound.opens (λ m. elim (before_or_past m) [
      | inl before ↦ open_same (kinds_before m before) (truths_before m before) (asserted_same m)
      | inr past ↦ open_off _ _ _ (asserted_same m ∙ off_past m past) ∙ sym (open_off _ _ _ (off_past m past))
    ]);
    stuck = members_same room (stuck_at shown) (stuck_at (with_node shown kind truth places)) stuck sound.stuck (λ m. elim (before_or_past m) [
      | inl before ↦ stuck_same (kinds_before m before) (asserted_same m) (ap counts_of (places_before m before))
      | inr past ↦ stuck_off _ _ _ (asserted_same m ∙ off_past m past) ∙ sym (stuck_off _ _ _ (off_past m past))
    ]);
  }

-- ---- the last node is taken away

get_take : {A : Type 0} (xs : List A) (n k : ℕ) (d : A) → k < n → slice_index_or (take n xs) k d ≡ slice_index_or xs k d
get_take [] zero k d h = refl
get_take [] (suc n) k d h = refl
get_take (x ∷ xs) zero k d h = absurd (omega arith)
get_take (x ∷ xs) (suc n) zero d h = refl
get_take (x ∷ xs) (suc n) (suc k) d h = get_take xs n k d (omega arith)

take_past : {A : Type 0} (xs : List A) (n k : ℕ) (d : A) → n ≤ k → slice_index_or (take n xs) k d ≡ d
take_past [] zero k d h = refl
take_past [] (suc n) k d h = refl
take_past (x ∷ xs) zero k d h = refl
take_past (x ∷ xs) (suc n) zero d h = absurd (omega arith)
take_past (x ∷ xs) (suc n) (suc k) d h = take_past xs n k d (omega arith)

length_cut : {A : Type 0} (xs : List A) (n : ℕ) → n ≤ length xs → length (take n xs) ≡ n
length_cut [] zero h = refl
length_cut [] (suc n) h = absurd (omega arith)
length_cut (x ∷ xs) zero h = refl
length_cut (x ∷ xs) (suc n) h = ap suc (length_cut xs n (omega arith))

unit_leaf : (k : Kind) (t : Truth) (a : Bool) (c : Counts) → k ≡ Leaf → unit_test k t a c ≡ false
unit_leaf k t a c e = ap (λ x. unit_test x t a c) e

open_leaf : (k : Kind) (t : Truth) (a : Bool) → k ≡ Leaf → open_test k t a ≡ false
open_leaf k t a e = ap (λ x. open_test x t a) e

stuck_leaf : (k : Kind) (a : Bool) (c : Counts) → k ≡ Leaf → stuck_test k a c ≡ false
stuck_leaf k a c e = ap (λ x. stuck_test x a c) e

members_less : (room : ℕ) (old new : ℕ → Bool) (set : List Bool) (n : ℕ) → AreMembers room old set → n < room → ((m : ℕ) → m < n → new m ≡ old m) → ((m : ℕ) → n ≤ m → new m ≡ false) → ((m : ℕ) → n < m → old m ≡ false) → AreMembers room new (slice_set set n false)
members_less room old new set n members lt same off was_off = record {
  room = omega (arith, members.room, length-set set n false);
  are = λ m. elim (order m n) [
    | inl before ↦ get-set_other set n m false false (omega arith) ∙ members.are m ∙ sym (same m before)
    | inr (inl here) ↦ ap (λ k. slice_index_or (slice_set set n false) k false) here ∙ get-set_same set n false false (omega (arith, members.room)) ∙ sym (off m (omega arith))
    | inr (inr past) ↦ get-set_other set n m false false (omega arith) ∙ members.are m ∙ was_off m past ∙ sym (off m (omega arith))
  ];
}

module _ (room : ℕ) (shown : Shown) (counts : List Counts) (units opens stuck : List Bool) (sound : IsSoundBoard room shown counts units opens stuck) (n : ℕ) (last : length shown.kinds - 1 ≡ n) (some : 0 < length shown.kinds) where
  -- the kind of what isn't there
  kind_gone : (m : ℕ) → n ≤ m → kind_at (without_node shown) m ≡ Leaf
  kind_gone m h = take_past shown.kinds (length shown.kinds - 1) m Leaf (omega arith)

  kind_past : (m : ℕ) → n < m → kind_at shown m ≡ Leaf
  kind_past m h = past_end shown.kinds Leaf m (omega arith)

  pub sound_drop : IsSoundBoard room (without_node shown) (take (length counts - 1) counts) (slice_set units n false) (slice_set opens n false) (slice_set stuck n false)
  sound_drop =
      let k = length_cut shown.kinds (length shown.kinds - 1) (omega arith) in
      record {
        aligned = record {
          truths = length_cut shown.truths (length shown.kinds - 1) (omega (arith, sound.aligned.truths)) ∙ sym k;
          asserted = length_cut shown.asserted (length shown.kinds - 1) (omega (arith, sound.aligned.asserted)) ∙ sym k;
          places = length_cut shown.places (length shown.kinds - 1) (omega (arith, sound.aligned.places)) ∙ sym k;
          few = omega (arith, k, sound.aligned.few);
          few_places = λ m. elim (before_or_not m) [
            | inl before ↦ omega (arith, ap length (get_take shown.places (length shown.kinds - 1) m [] (omega arith)), sound.aligned.few_places m)
            | inr past ↦ omega (arith, ap length (take_past shown.places (length shown.kinds - 1) m [] (omega arith)))
          ];
        };
        within = omega (arith, k, sound.within);
        small = sound.small;
        len = length_cut counts (length counts - 1) (omega arith) ∙ ap (λ x. x - 1) sound.len ∙ sym k;
        counted = λ m h. get_take counts (length counts - 1) m no_counts (omega (arith, k, sound.len)) ∙ sound.counted m (omega (arith, k)) ∙ ap counts_of (sym (get_take shown.places (length shown.kinds - 1) m [] (omega (arith, k))));
        units = members_less room (unit_at shown) (unit_at (without_node shown)) units n sound.units (omega (arith, sound.within))
            (λ m h. unit_same (get_take shown.kinds (length shown.kinds - 1) m Leaf (omega arith)) (get_take shown.truths (length shown.kinds - 1) m Unset (omega arith)) (get_take shown.asserted (length shown.kinds - 1) m false (omega arith)) (ap counts_of (get_take shown.places (length shown.kinds - 1) m [] (omega arith))))
            (λ m h. unit_leaf _ _ _ _ (kind_gone m h)) (λ m h. unit_leaf _ _ _ _ (kind_past m h));
        opens = members_less room (open_at shown) (open_at (without_node shown)) opens n sound.opens (omega (arith, sound.within))
            (λ m h. open_same (get_take shown.kinds (length shown.kinds - 1) m Leaf (omega arith)) (get_take shown.truths (length shown.kinds - 1) m Unset (omega arith)) (get_take shown.asserted (length shown.kinds - 1) m false (omega arith)))
            (λ m h. open_leaf _ _ _ (kind_gone m h)) (λ m h. open_leaf _ _ _ (kind_past m h));
        stuck = members_less room (stuck_at shown) (stuck_at (without_node shown)) stuck n sound.stuck (omega (arith, sound.within))
            (λ m h. stuck_same (get_take shown.kinds (length shown.kinds - 1) m Leaf (omega arith)) (get_take shown.asserted (length shown.kinds - 1) m false (omega arith)) (ap counts_of (get_take shown.places (length shown.kinds - 1) m [] (omega arith))))
            (λ m h. stuck_leaf _ _ _ (kind_gone m h)) (λ m h. stuck_leaf _ _ _ (kind_past m h));
      }
    where
      before_or_not : (m : ℕ) → (m < n) ⊎ (n ≤ m)
      before_or_not m = search arith

-- ---- the room grows

below_or_not : (h : ℕ) → (h < 32) ⊎ (32 ≤ h)
below_or_not h = search arith

pub height_small : (h : ℕ) → 2 ^ h < 2 ^ 32 → h < 32
height_small h small = elim (below_or_not h) [
  | inl lt ↦ lt
  | inr past ↦ let more : 2 ^ 32 ≤ 2 ^ h = pow-le-pow_right {n = 2} (lit< tt) {i = 32} {j = h} past in absurd (omega (arith, small, more))
]

pub height_fits : (h : ℕ) → h < 32 → 2 ^ h < 2 ^ 32
height_fits h lt = let more : 2 ^ h ≤ 2 ^ 31 = pow-le-pow_right {n = 2} (lit< tt) {i = h} {j = 31} (omega arith) in omega (arith, more)

pub alike_of : (sets : Sets) (shown : Shown) (counts : List Counts) → IsSoundBoard (2 ^ sets.height) shown counts sets.units sets.opens sets.stuck → AreAlike sets
alike_of sets shown counts sound = record {
  few = height_small sets.height sound.small;
  units = sound.units.room;
  opens = sound.opens.room;
  stuck = sound.stuck.room;
}

-- with the same members and more room it is as sound
pub sound_wider : (old new : Sets) (shown : Shown) (counts : List Counts) → IsSoundBoard (2 ^ old.height) shown counts old.units old.opens old.stuck → AreAlike new → IsWider old new → length shown.kinds < 2 ^ new.height
    → IsSoundBoard (2 ^ new.height) shown counts new.units new.opens new.stuck
sound_wider old new shown counts sound alike wider lt = record {
  aligned = sound.aligned;
  within = omega (arith, lt);
  small = height_fits new.height alike.few;
  len = sound.len;
  counted = sound.counted;
  units = record { room = alike.units; are = λ n. wider.units n ∙ sound.units.are n };
  opens = record { room = alike.opens; are = λ n. wider.opens n ∙ sound.opens.are n };
  stuck = record { room = alike.stuck; are = λ n. wider.stuck n ∙ sound.stuck.are n };
}

-- ---- sets with twice the room

get_more : (xs : List Bool) (count n : ℕ) → slice_index_or (xs ++ replicate count false) n false ≡ slice_index_or xs n false
get_more [] count n = elim (less_or_not n count) [
  | inl lt ↦ get_or-replicate count n false false lt
  | inr past ↦ get_or_past (replicate count false) n false (omega (arith, past, length-replicate count false))
]
  where
    less_or_not : (n m : ℕ) → (n < m) ⊎ (m ≤ n)
    less_or_not n m = search arith
get_more (x ∷ xs) count zero = refl
get_more (x ∷ xs) count (suc n) = get_more xs count n

pub same_members : (xs ys : List Bool) (count : ℕ) → ys ≡ xs ++ replicate count false → HaveSameMembers xs ys
same_members xs ys count is n = ap (λ (zs : List Bool). slice_index_or zs n false) is ∙ get_more xs count n

pub length_more : (xs ys : List Bool) (all : ℕ) → length xs ≤ all → ys ≡ xs ++ replicate (all - length xs) false → length ys ≡ all
length_more xs ys all fits is = omega (arith, ap length is, length-append xs (replicate (all - length xs) false), length-replicate (all - length xs) false, fits)

pub one_more_fits : (h : ℕ) → 2 ^ h ≤ 2 ^ (h + 1)
one_more_fits h = pow-le-pow_right {n = 2} (lit< tt) {i = h} {j = h + 1} (omega arith)

-- without nodes there are no members
pub sound_none : (h : ℕ) (units opens stuck : List Bool) → h < 32 → units ≡ replicate (2 ^ h) false → opens ≡ replicate (2 ^ h) false → stuck ≡ replicate (2 ^ h) false → IsSoundBoard (2 ^ h) no_nodes [] units opens stuck
sound_none h units opens stuck few units_are opens_are stuck_are = record {
  aligned = record { truths = refl; asserted = refl; places = refl; few = omega arith; few_places = λ n. omega arith };
  within = omega arith;
  small = height_fits h few;
  len = refl;
  counted = λ n lt. absurd (omega (arith, lt));
  units = record { room = ap length units_are ∙ length-replicate (2 ^ h) false; are = λ n. ap (λ (set : List Bool). slice_index_or set n false) units_are ∙ get_more [] (2 ^ h) n };
  opens = record { room = ap length opens_are ∙ length-replicate (2 ^ h) false; are = λ n. ap (λ (set : List Bool). slice_index_or set n false) opens_are ∙ get_more [] (2 ^ h) n };
  stuck = record { room = ap length stuck_are ∙ length-replicate (2 ^ h) false; are = λ n. ap (λ (set : List Bool). slice_index_or set n false) stuck_are ∙ get_more [] (2 ^ h) n };
}
