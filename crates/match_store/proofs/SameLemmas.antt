-- Terms that are equal, place by place, and their leaders.
use Rattle.std.proofs.Common.{◌≡◌, ◌≤◌, ◌<◌, ℕ, zero, suc, List, [], ◌∷◌, ◌++◌, length, get_or, All, refl, ap₂, arith}
use Rattle.std.proofs.lemmas.List.Elements.{All-nil, All-cons, All-head, All-tail}
use Rattle.std.proofs.lemmas.Option.{slice_get_within}
use Rattle.graph_terms.specs.declared.term_row.TermRow.{TermRow}
use Rattle.graph_terms.specs.Terms.{term_row}
use Rattle.graph_meaning.specs.Lawful.{AreBelow, EndsBelow}
use Rattle.graph_meaning.specs.Same.{Derives, DerivesEach, IsClassLeader, same_term, turned, joined, merged, congruent, none, more}

module _ {rows : List TermRow} {merges : List (ℕ × ℕ)} where
  module _ (ends : EndsBelow merges (length rows)) where
    -- numbers that are derived equal are terms
    pub ends_stand : {s t : ℕ} → Derives rows merges s t → AreBelow (length rows) s t
    ends_stand (same_term less) = (less, less)
    ends_stand (turned h) = let both = ends_stand h in (both.1, both.0)
    ends_stand (joined h k) = ((ends_stand h).0, (ends_stand k).1)
    ends_stand {s} {t} (merged c) = ends s t c
    ends_stand {s} {t} (congruent {symbol = symbol} {ss = ss} {ts = ts} a b each) = (slice_get_within rows s (term_row symbol ss) a, slice_get_within rows t (term_row symbol ts) b)

    pub each_stand : {ss ts : List ℕ} → DerivesEach rows merges ss ts → All (λ t. t < length rows) ss
    each_stand none = All-nil (λ t. t < length rows)
    each_stand (more {s = s} {ss = ss} h hs) = All-cons (λ t. t < length rows) s ss (ends_stand h).0 (each_stand hs)

  pub each_length : {ss ts : List ℕ} → DerivesEach rows merges ss ts → length ss ≡ length ts
  each_length none = refl
  each_length (more h hs) = let rest = each_length hs in omega (arith, rest)

  pub each_at : {ss ts : List ℕ} → DerivesEach rows merges ss ts → (k : ℕ) → k < length ss → Derives rows merges (get_or ss k 0) (get_or ts k 0)
  each_at none k less = absurd (omega (arith, less))
  each_at (more h hs) zero less = h
  each_at (more h hs) (suc k) less = each_at hs k (omega (arith, less))

  pub each_push : {ss ts : List ℕ} (s t : ℕ) → DerivesEach rows merges ss ts → Derives rows merges s t → DerivesEach rows merges (ss ++ s ∷ []) (ts ++ t ∷ [])
  each_push s t none same = more same none
  each_push s t (more h hs) same = more h (each_push s t hs same)

  -- a term has one leader
  one_leader : {term s t : ℕ} → Derives rows merges term s → Derives rows merges term t → IsClassLeader rows merges s s → IsClassLeader rows merges t t → s ≡ t
  one_leader {term} {s} {t} h k a b =
      let below : s ≤ t = a.least t (joined (turned k) h) in
      let above : t ≤ s = b.least s (joined (turned h) k) in
      omega (arith, below, above)

  -- and a tuple one tuple of leaders
  pub one_leader_each : {terms ss ts : List ℕ} → DerivesEach rows merges terms ss → DerivesEach rows merges terms ts → All (λ t. IsClassLeader rows merges t t) ss → All (λ t. IsClassLeader rows merges t t) ts → ss ≡ ts
  one_leader_each none none a b = refl
  one_leader_each (more {t = s} {ts = ss} h hs) (more {t = t} {ts = ts} k ks) a b =
      let P : ℕ → Type 0 = λ t. IsClassLeader rows merges t t in
      ap₂ (λ x xs. x ∷ xs) (one_leader h k (All-head P s ss a) (All-head P t ts b)) (one_leader_each hs ks (All-tail P s ss a) (All-tail P t ts b))

  -- a leader leads itself
  pub leads_itself : {term leader : ℕ} → IsClassLeader rows merges term leader → IsClassLeader rows merges leader leader
  leads_itself is = record { same = joined is.same (turned is.same); least = λ other h. is.least other (joined h is.same) }
