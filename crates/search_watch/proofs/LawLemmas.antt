-- The laws on which literals are looked at.
use Rattle.std.proofs.Common.{◌≡◌, ◌<◌, ◌⊎◌, inl, inr, ℕ, Bool, List, [], ◌∷◌, ◌++◌, length, take, refl, sym, subst, arith}
use Rattle.std.proofs.lemmas.List.{take_all}
use Rattle.std.proofs.lemmas.List.Elements.{Contains-append_left}
use Rattle.graph_meaning.specs.declared.union.Union.{Union}
use Rattle.graph_meaning.specs.declared.done.Done.{Done}
use Rattle.graph_meaning.specs.Same.{Same}
use Rattle.graph_meaning.specs.Same as congruence
use Rattle.formula_truth.specs.declared.truth.Truth.{Truth}
use Rattle.formula_truth.specs.declared.truth.Truth.TheVariants.{Yes, No, Unset}
use Rattle.graph_meaning.specs.Unions.{Generated, was, listed, turned, joined}
use Rattle.search_watch.specs.Literals.{AreKeptApart, IsEquationValue, IsAtomValue, Clashes}
use Rattle.search_watch.specs.Looked.{IsLookedAt, HasMovedEnd, ClashIsMet}
use Rattle.search_watch.specs.Laws.{Joins}
use Rattle.graph_meaning.specs.Unions.{WasSame}
use Rattle.search_watch.proofs.ItemLemmas.{got_item}
use Rattle.search_watch.proofs.StepLemmas.{EndsStand, same_by, clash_by, apart_by}

was_turned : (standing : List Done) (n s t : ℕ) → WasSame standing n s t → WasSame standing n t s
was_turned standing n s t (inl g) = inl (congruence.Derives.turned g)
was_turned standing n s t (inr (e, lt)) = inr (sym e, subst (λ (x : ℕ). x < n) e lt)

was_joined : (standing : List Done) (n s t u : ℕ) → WasSame standing n s t → WasSame standing n t u → WasSame standing n s u
was_joined standing n s t u (inl g) (inl h) = inl (congruence.Derives.joined g h)
was_joined standing n s t u (inl g) (inr (e, lt)) = inl (subst (λ (x : ℕ). Same standing s x) e g)
was_joined standing n s t u (inr (e, lt)) h = subst (λ (x : ℕ). WasSame standing n x u) (sym e) h

module _ (old new : List Done) (terms : ℕ) (unions : List Union) (joins : Joins old new terms unions) (side : ℕ → Bool) where
  -- with no union the classes are the old ones
  none_held : {s t : ℕ} → Generated (WasSame old terms) [] s t → WasSame old terms s t
  none_held (was h) = h
  none_held (listed c) = absurd (omega (arith, c.1))
  none_held {s = s} {t = t} (turned g) = was_turned old terms t s (none_held g)
  none_held {s = s} {t = t} (joined {t = m} g h) = was_joined old terms s m t (none_held g) (none_held h)

  ends : EndsStand (WasSame old terms) unions
  ends union (k, lt, e) = let both = joins.below k union (got_item unions k union lt e) in (inr (refl, both.0), inr (refl, both.1))

  all : (s t : ℕ) → Same new s t → Generated (WasSame old terms) (take (length unions) unions) s t
  all s t g = subst (λ (us : List Union). Generated (WasSame old terms) us s t) (sym (take_all (length unions) unions (omega arith))) (joins.generated s t g)

  none_held_0 : (s t : ℕ) → Generated (WasSame old terms) (take 0 unions) s t → WasSame old terms s t
  none_held_0 s t g = none_held (subst (λ (us : List Union). Generated (WasSame old terms) us s t) (take-none unions) g)
    where
      take-none : (us : List Union) → take 0 us ≡ []
      take-none [] = refl
      take-none (u ∷ us) = refl

  -- what was equal is
  still : (s t : ℕ) → WasSame old terms s t → Same new s t
  still s t h = joins.held s t (was h)

  -- what is equal was, or has an end in a walked class
  pub same_looked : (s t : ℕ) → Same new s t → WasSame old terms s t ⊎ HasMovedEnd (WasSame old terms) unions side s t
  same_looked s t g = elim (same_by (WasSame old terms) unions ends side (length unions) (omega arith) s t (all s t g)) [ inl h ↦ inl (none_held h) | inr looked ↦ inr looked ]

  widened : (differs : List (ℕ × ℕ)) (s t : ℕ) → HasMovedEnd (WasSame old terms) unions side s t → IsLookedAt (WasSame old terms) unions side differs s t
  widened differs s t met = record { k = met.k; union = met.union; at = met.at; holds = inl met.holds }

  apart_old : (differs : List (ℕ × ℕ)) (s t : ℕ) → AreKeptApart (Generated (WasSame old terms) (take 0 unions)) differs s t → AreKeptApart (WasSame old terms) differs s t
  apart_old differs s t (a, b, on, inl both) = (a, b, on, inl (none_held_0 a s both.0, none_held_0 b t both.1))
  apart_old differs s t (a, b, on, inr both) = (a, b, on, inr (none_held_0 a t both.0, none_held_0 b s both.1))

  apart_all : (differs : List (ℕ × ℕ)) (s t : ℕ) → AreKeptApart (Same new) differs s t → AreKeptApart (Generated (WasSame old terms) (take (length unions) unions)) differs s t
  apart_all differs s t (a, b, on, inl both) = (a, b, on, inl (all a s both.0, all b t both.1))
  apart_all differs s t (a, b, on, inr both) = (a, b, on, inr (all a t both.0, all b s both.1))

  -- what was kept apart is
  pub apart_still : (differs more : List (ℕ × ℕ)) (s t : ℕ) → AreKeptApart (WasSame old terms) differs s t → AreKeptApart (Same new) (differs ++ more) s t
  apart_still differs more s t (a, b, on, inl both) = (a, b, Contains-append_left differs more (a, b) on, inl (still a s both.0, still b t both.1))
  apart_still differs more s t (a, b, on, inr both) = (a, b, Contains-append_left differs more (a, b) on, inr (still a t both.0, still b s both.1))

  apart_kept : (differs : List (ℕ × ℕ)) (s t : ℕ) → AreKeptApart (WasSame old terms) differs s t → AreKeptApart (Same new) differs s t
  apart_kept differs s t (a, b, on, inl both) = (a, b, on, inl (still a s both.0, still b t both.1))
  apart_kept differs s t (a, b, on, inr both) = (a, b, on, inr (still a t both.0, still b s both.1))

  apart_looked : (differs : List (ℕ × ℕ)) (s t : ℕ) → AreKeptApart (Same new) differs s t → AreKeptApart (WasSame old terms) differs s t ⊎ (IsLookedAt (WasSame old terms) unions side differs s t ⊎ Same new s t)
  apart_looked differs s t apart = elim (apart_by (WasSame old terms) unions ends side differs (length unions) (omega arith) s t (apart_all differs s t apart)) [
    | inl h ↦ inl (apart_old differs s t h)
    | inr (inl looked) ↦ inr (inl looked)
    | inr (inr same) ↦ inr (inr (joins.held s t same))
  ]

  -- ---- the laws

  pub equation_changes : (differs : List (ℕ × ℕ)) (s t : ℕ) (v w : Truth) → IsEquationValue (WasSame old terms) differs s t v → IsEquationValue (Same new) differs s t w → (v ≡ w) ⊎ IsLookedAt (WasSame old terms) unions side differs s t
  equation_changes differs s t Yes Yes p q = inl refl
  equation_changes differs s t No Yes p q = elim (same_looked s t q) [ inl h ↦ absurd (p.0 h) | inr met ↦ inr (widened differs s t met) ]
  equation_changes differs s t Unset Yes p q = elim (same_looked s t q) [ inl h ↦ absurd (p.0 h) | inr met ↦ inr (widened differs s t met) ]
  equation_changes differs s t Yes No p q = absurd (q.0 (still s t p))
  equation_changes differs s t No No p q = inl refl
  equation_changes differs s t Unset No p q = elim (apart_looked differs s t q.1) [
    | inl h ↦ absurd (p.1 h)
    | inr (inl looked) ↦ inr looked
    | inr (inr same) ↦ absurd (q.0 same)
  ]
  equation_changes differs s t Yes Unset p q = absurd (q.0 (still s t p))
  equation_changes differs s t No Unset p q = absurd (q.1 (apart_kept differs s t p.1))
  equation_changes differs s t Unset Unset p q = inl refl

  pub atom_changes : (t : ℕ) (v w : Truth) → IsAtomValue (WasSame old terms) t v → IsAtomValue (Same new) t w → (v ≡ w) ⊎ (HasMovedEnd (WasSame old terms) unions side t 0 ⊎ HasMovedEnd (WasSame old terms) unions side t 1)
  atom_changes t Yes Yes p q = inl refl
  atom_changes t No Yes p q = elim (same_looked t 0 q) [ inl h ↦ absurd (p.0 h) | inr met ↦ inr (inl met) ]
  atom_changes t Unset Yes p q = elim (same_looked t 0 q) [ inl h ↦ absurd (p.0 h) | inr met ↦ inr (inl met) ]
  atom_changes t Yes No p q = absurd (q.0 (still t 0 p))
  atom_changes t No No p q = inl refl
  atom_changes t Unset No p q = elim (same_looked t 1 q.1) [ inl h ↦ absurd (p.1 h) | inr met ↦ inr (inr met) ]
  atom_changes t Yes Unset p q = absurd (q.0 (still t 0 p))
  atom_changes t No Unset p q = absurd (q.1 (still t 1 p.1))
  atom_changes t Unset Unset p q = inl refl

  pub clash_met : (differs : List (ℕ × ℕ)) → Clashes (Same new) differs → Clashes (WasSame old terms) differs ⊎ ClashIsMet (WasSame old terms) unions side differs
  clash_met differs (a, b, on, same) = elim (clash_by (WasSame old terms) unions ends side differs (length unions) (omega arith) a b on (all a b same)) [ inl h ↦ inl (a, b, on, none_held h) | inr met ↦ inr met ]

  -- two terms that are equal and kept apart make a difference clash
  clash_of : (differs : List (ℕ × ℕ)) (s t : ℕ) → Same new s t → AreKeptApart (Same new) differs s t → Clashes (Same new) differs
  clash_of differs s t same (a, b, on, inl both) = (a, b, on, congruence.Derives.joined both.0 (congruence.Derives.joined same (congruence.Derives.turned both.1)))
  clash_of differs s t same (a, b, on, inr both) = (a, b, on, congruence.Derives.joined both.0 (congruence.Derives.joined (congruence.Derives.turned same) (congruence.Derives.turned both.1)))

  pub equation_stays : (differs more : List (ℕ × ℕ)) (s t : ℕ) (v w : Truth) → (Clashes (Same new) (differs ++ more) → ⊥) → IsEquationValue (WasSame old terms) differs s t v → IsEquationValue (Same new) (differs ++ more) s t w → (v ≡ Unset) ⊎ (v ≡ w)
  equation_stays differs more s t Unset w quiet p q = inl refl
  equation_stays differs more s t Yes Yes quiet p q = inr refl
  equation_stays differs more s t Yes No quiet p q = absurd (q.0 (still s t p))
  equation_stays differs more s t Yes Unset quiet p q = absurd (q.0 (still s t p))
  equation_stays differs more s t No No quiet p q = inr refl
  equation_stays differs more s t No Yes quiet p q = absurd (quiet (clash_of (differs ++ more) s t q (apart_still differs more s t p.1)))
  equation_stays differs more s t No Unset quiet p q = absurd (q.1 (apart_still differs more s t p.1))

  pub atom_stays : (t : ℕ) (v w : Truth) → (Same new 0 1 → ⊥) → IsAtomValue (WasSame old terms) t v → IsAtomValue (Same new) t w → (v ≡ Unset) ⊎ (v ≡ w)
  atom_stays t Unset w quiet p q = inl refl
  atom_stays t Yes Yes quiet p q = inr refl
  atom_stays t Yes No quiet p q = absurd (q.0 (still t 0 p))
  atom_stays t Yes Unset quiet p q = absurd (q.0 (still t 0 p))
  atom_stays t No No quiet p q = inr refl
  atom_stays t No Yes quiet p q = absurd (quiet (congruence.Derives.joined (congruence.Derives.turned q) (still t 1 p.1)))
  atom_stays t No Unset quiet p q = absurd (q.1 (still t 1 p.1))
