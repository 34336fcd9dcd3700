-- Terms that are equal, place by place, and their leaders.
use Rattle.std.proofs.Common.{◌≡◌, ◌≤◌, ℕ, List, ◌∷◌, All, refl, ap₂, arith}
use Rattle.std.proofs.lemmas.List.Elements.{All-head, All-tail}
use Rattle.graph_terms.specs.declared.term_row.TermRow.{TermRow}
use Rattle.graph_meaning.specs.Same.{Derives, DerivesEach, IsClassLeader, turned, joined, none, more}

module _ {rows : List TermRow} {merges : List (ℕ × ℕ)} where
  -- a term has one leader
  one_leader : {term s t : ℕ} → Derives rows merges term s → Derives rows merges term t → IsClassLeader rows merges s s → IsClassLeader rows merges t t → s ≡ t
  one_leader {term} {s} {t} h k a b =
      let below : s ≤ t = a.least t (joined (turned k) h) in
      let above : t ≤ s = b.least s (joined (turned h) k) in
      omega (arith, below, above)

  -- and a tuple one tuple of leaders
  pub one_leader_each : {terms ss ts : List ℕ} → DerivesEach rows merges terms ss → DerivesEach rows merges terms ts → All (λ t. IsClassLeader rows merges t t) ss → All (λ t. IsClassLeader rows merges t t) ts → ss ≡ ts
  one_leader_each none none a b = refl
  one_leader_each (more {t = s} {ts = ss} h hs) (more {t = t} {ts = ts} k ks) a b =
      let P : ℕ → Type 0 = λ t. IsClassLeader rows merges t t in
      ap₂ (λ x xs. x ∷ xs) (one_leader h k (All-head P s ss a) (All-head P t ts b)) (one_leader_each hs ks (All-tail P s ss a) (All-tail P t ts b))

  -- a leader leads itself
  pub leads_itself : {term leader : ℕ} → IsClassLeader rows merges term leader → IsClassLeader rows merges leader leader
  leads_itself is = record { same = joined is.same (turned is.same); least = λ other h. is.least other (joined h is.same) }
