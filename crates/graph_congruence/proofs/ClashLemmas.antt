-- Pairs that are kept apart, looked through in order.
use Rattle.std.proofs.Common.{◌≡◌, ◌≤◌, ◌<◌, ◌+◌, ◌⊎◌, inl, inr, ℕ, List, [], ◌∷◌, length, Some, Bool, true, false, zero, suc, slice_get, get_or, Contains, refl, sym, ◌∙◌, ap, subst, arith}
use Rattle.std.proofs.lemmas.Option.{slice_get_within}
use Rattle.graph_meaning.specs.declared.done.Done.{Done}
use Rattle.graph_meaning.specs.Lawful.{IsLawful}
use Rattle.graph_terms.proofs.ListLaws.{place_from_Contains, Contains-slice_get}
use Rattle.graph_meaning.specs.Same.{Same}
use Rattle.graph_meaning.specs.Standing.{terms_of, differs_of}
use Rattle.graph_congruence.specs.Clash.{apart_of, NoneSame}

two_terms : (standing : List Done) → 1 < length (terms_of standing)
two_terms standing = omega arith

-- both ends of a pair that is kept apart are terms
pub apart_below : (standing : List Done) (i s t : ℕ) → IsLawful standing → slice_get (apart_of standing) i ≡ Some (s, t) → (s < length (terms_of standing)) × (t < length (terms_of standing))
apart_below standing zero s t lawful is =
    let two = two_terms standing in
    let pair : (0, 1) ≡ (s, t) = cc in
    let P : ℕ × ℕ → Type 0 = λ p. (p.0 < length (terms_of standing)) × (p.1 < length (terms_of standing)) in
    subst P pair (omega (arith, two_terms standing), two_terms standing)
apart_below standing (suc i) s t lawful is = lawful.whole.different_ends s t (Contains-slice_get (differs_of standing) i (s, t) is)

stands_at : (pairs : List (ℕ × ℕ)) (i : ℕ) (d : ℕ × ℕ) → i < length pairs → slice_get pairs i ≡ Some (get_or pairs i d)
stands_at [] i d h = absurd (omega arith)
stands_at (x ∷ xs) zero d h = refl
stands_at (x ∷ xs) (suc i) d h = stands_at xs i d (omega arith)

-- what was read at a place stands there
pub read_at : (pairs : List (ℕ × ℕ)) (i : ℕ) (pair : ℕ × ℕ) → i < length pairs → pair ≡ get_or pairs i pair → slice_get pairs i ≡ Some pair
read_at pairs i pair h is = stands_at pairs i pair h ∙ ap Some (sym is)

pub not_both : (b : Bool) → b ≡ true → b ≡ false → ⊥
not_both b is_true is_false = cc

-- one pair more isn't the same
pub none_more : (standing : List Done) (pairs : List (ℕ × ℕ)) (k s t : ℕ) → NoneSame standing pairs k → slice_get pairs k ≡ Some (s, t) → (Same standing s t → ⊥) → NoneSame standing pairs (k + 1)
none_more standing pairs k s t none is apart i a b h at same = elim (below_or_at k i h) [
  | inl early ↦ none i a b early at same
  | inr here ↦
      let one : Some (a, b) ≡ Some (s, t) = sym at ∙ ap (slice_get pairs) here ∙ is in
      let P : ℕ × ℕ → Type 0 = λ p. Same standing p.0 p.1 in
      let pair : (a, b) ≡ (s, t) = cc in
      apart (subst P pair same)
]
  where
    below_or_at : (n t : ℕ) → t < n + 1 → (t < n) ⊎ (t ≡ n)
    below_or_at n t h = grind arith

-- none is where all were looked through
pub none_at_all : (standing : List Done) (pairs : List (ℕ × ℕ)) (k : ℕ) → length pairs ≤ k → NoneSame standing pairs k → (s t : ℕ) → Contains pairs (s, t) → Same standing s t → ⊥
none_at_all standing pairs k long none s t c same =
    let at = place_from_Contains pairs (s, t) c in
    none at.0 s t (let low = slice_get_within pairs at.0 (s, t) at.1 in omega arith) at.1 same
