-- Leaders, one after another.
use Rattle.std.proofs.Common.{◌≡◌, ℕ, zero, suc, ◌+◌, ◌⊎◌, List, [], ◌∷◌, ◌++◌, length, slice_get, Some, refl, sym}
use Rattle.std.proofs.Common.{ap, subst, ◌∙◌, inl, inr, ⊎_elim, arith}
use Rattle.std.proofs.lemmas.List.{length-append}
use Rattle.std.proofs.lemmas.Option.{same_Some, none-some}
use Rattle.graph_meaning.specs.declared.done.Done.{Done}
use Rattle.graph_meaning.specs.Same.{IsLeader}
use Rattle.graph_meaning.specs.Standing.{terms_of}
use Rattle.search_laws.specs.Kept.{AreLeaders}

-- an element of a list with one more is one of the list, or the last
push_cases : {X : Type 0} (xs : List X) (x : X) (k : ℕ) (y : X) → slice_get (xs ++ x ∷ []) k ≡ Some y →
    (slice_get xs k ≡ Some y) ⊎ ((k ≡ length xs) × (y ≡ x))
push_cases [] x zero y at = inr (refl, sym (same_Some x y at))
push_cases [] x (suc k) y at = absurd (none-some y at)
push_cases (first ∷ xs) x zero y at = inl at
push_cases (first ∷ xs) x (suc k) y at = ⊎_elim inl
    (λ new. let last = new.0 in inr (omega (arith, last), new.1)) (push_cases xs x k y at)

-- the leaders of the first so many terms
pub record AreFirstLeaders (standing : List Done) (count : ℕ) (leaders : List ℕ) : Type 0 where
  pub so_many : length leaders ≡ count
  pub are : (term leader : ℕ) → slice_get leaders term ≡ Some leader → IsLeader standing term leader

pub no_leaders : (standing : List Done) (leaders : List ℕ) → leaders ≡ [] → AreFirstLeaders standing 0 leaders
no_leaders standing leaders none = record {
  so_many = ap length none;
  are = λ term leader at. absurd (none-some leader
      (subst (λ (ns : List ℕ). slice_get ns term ≡ Some leader) none at));
}

-- with the leader of the next term
pub next_leader : (standing : List Done) (count leader : ℕ) (leaders new : List ℕ) →
    AreFirstLeaders standing count leaders → IsLeader standing count leader → new ≡ leaders ++ leader ∷ [] →
    AreFirstLeaders standing (count + 1) new
next_leader standing count leader leaders new first is put = record {
  so_many = ap length put ∙ length-append leaders (leader ∷ []) ∙ ap (λ (k : ℕ). k + 1) first.so_many;
  are = λ term other at. ⊎_elim (first.are term other)
      (λ last. subst (IsLeader standing term) (sym last.1)
      (subst (λ (k : ℕ). IsLeader standing k leader) (sym (last.0 ∙ first.so_many)) is))
      (push_cases leaders leader term other (subst (λ (ns : List ℕ). slice_get ns term ≡ Some other) put at));
}

-- with that of each
pub all_leaders : (standing : List Done) (count : ℕ) (leaders numbers : List ℕ) → count ≡ length (terms_of standing) →
    numbers ≡ leaders → AreFirstLeaders standing count leaders → AreLeaders standing numbers
all_leaders standing count leaders numbers all same first = subst (AreLeaders standing) (sym same)
    (record { each = first.so_many ∙ all; are = first.are })
