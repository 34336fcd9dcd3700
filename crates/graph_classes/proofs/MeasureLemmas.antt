use Rattle.std.proofs.Common.{◌≡◌, ◌≢◌, ◌≤◌, ◌<◌, ◌+◌, inl, inr, ℕ, List, [], ◌∷◌, length, nat_eq, slice_index, zero, suc, refl, sym, ◌∙◌, ap, arith, if◌then◌else◌}
use Rattle.std.proofs.lemmas.Bool.Decides.{eqb_tells}
use Rattle.graph_classes.specs.State.{State}
use Rattle.graph_classes.specs.Indexed.{IsIndexed, IsRelabelled, own_from}
use Rattle.graph_classes.proofs.StepLemmas.{taken, taken_or_kept}

-- a label that is its own now was so before
OwnBefore : ℕ → List ℕ → List ℕ → Type 0
OwnBefore k old new = (i : ℕ) → i < length old → slice_index new i ≡ k + i → slice_index old i ≡ k + i

unfold_own : (k : ℕ) (old new : List ℕ) → OwnBefore k old new → (i : ℕ) → i < length old → slice_index new i ≡ k + i → slice_index old i ≡ k + i
unfolding OwnBefore
unfold_own k old new h = h

OwnBefore-tail : (k x y : ℕ) (old new : List ℕ) → OwnBefore k (x ∷ old) (y ∷ new) → OwnBefore (k + 1) old new
unfolding OwnBefore
OwnBefore-tail k x y old new before i h e = let b = before (suc i) (omega arith) (omega arith) in omega arith

first_no_more : (k x y : ℕ) (old new : List ℕ) → OwnBefore k (x ∷ old) (y ∷ new) → (if nat_eq y k then 1 else 0) ≤ (if nat_eq x k then 1 else 0)
unfolding OwnBefore
first_no_more k x y old new before = elim (eqb_tells y k) [
  | inl own ↦ let was : x ≡ k = before 0 (omega arith) (omega (arith, own.1)) ∙ omega arith in rw (own.0, was) (same_test k)
  | inr other ↦ rw other.0 (omega arith)
]
  where
    same_test : (k : ℕ) → 1 ≤ (if nat_eq k k then 1 else 0)
    same_test k = elim (eqb_tells k k) [ inl same ↦ rw same.0 (omega arith) | inr other ↦ absurd (other.1 refl) ]

own_no_more : (k : ℕ) (old new : List ℕ) → length new ≡ length old → OwnBefore k old new → own_from k new ≤ own_from k old
own_no_more k [] [] len before = omega arith
own_no_more k [] (y ∷ new) len before = absurd (omega arith)
own_no_more k (x ∷ old) [] len before = absurd (omega arith)
own_no_more k (x ∷ old) (y ∷ new) len before =
    omega (arith, first_no_more k x y old new before, own_no_more (k + 1) old new (omega arith) (OwnBefore-tail k x y old new before))

own_fewer : (k j : ℕ) (old new : List ℕ) → length new ≡ length old → OwnBefore k old new → j < length old → slice_index old j ≡ k + j → (slice_index new j ≡ k + j → ⊥) → own_from k new < own_from k old
own_fewer k j [] new len before h own lost = absurd (omega arith)
own_fewer k j (x ∷ old) [] len before h own lost = absurd (omega arith)
own_fewer k zero (x ∷ old) (y ∷ new) len before h own lost = elim (eqb_tells y k) [
  | inl same ↦ absurd (lost (omega (arith, same.1)))
  | inr other ↦ elim (eqb_tells x k) [
    | inl was ↦ rw (other.0, was.0) (omega (arith, own_no_more (k + 1) old new (omega arith) (OwnBefore-tail k x y old new before)))
    | inr not ↦ absurd (not.1 (omega (arith, own)))
  ]
]
own_fewer k (suc j) (x ∷ old) (y ∷ new) len before h own lost =
    omega (
      arith,
      first_no_more k x y old new before,
      own_fewer (k + 1) j old new (omega arith) (OwnBefore-tail k x y old new before) (omega arith) (omega (arith, own)) (λ e. lost (omega (arith, e))),
    )

-- a label fewer is its own once it has gone to another
pub own_fewer-relabelled : (s : State) (new : List ℕ) (from into : ℕ) → IsIndexed s → from < length s.rows → into < length s.rows → slice_index s.labels from ≡ from → slice_index s.labels into ≡ into → from ≢ into → IsRelabelled s.labels new from into → own_from 0 new < own_from 0 s.labels
unfolding OwnBefore
own_fewer-relabelled s new from into indexed from_in into_in from_own into_own apart relabelled =
    own_fewer 0 from s.labels new relabelled.len before (rw indexed.labels_len from_in) (omega (arith, from_own)) (λ e. apart (sym (sym gone ∙ e ∙ omega arith)))
  where
    gone : slice_index new from ≡ into
    gone = taken s.labels new from into relabelled from (rw indexed.labels_len from_in) from_own

    before : (i : ℕ) → i < length s.labels → slice_index new i ≡ 0 + i → slice_index s.labels i ≡ 0 + i
    before i h e = elim (taken_or_kept s.labels new from into relabelled i h) [
      | inl took ↦ let is_into : i ≡ into = omega (arith, e, took.1) in absurd (apart (sym took.0 ∙ ap (slice_index s.labels) is_into ∙ into_own))
      | inr same ↦ sym same ∙ e
    ]
