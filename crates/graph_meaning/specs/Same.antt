-- The least congruence of a standing list.
use Rattle.std.specs.Prelude.{ℕ, ◌<◌, ◌≤◌, List, [], ◌∷◌, length, Contains}
use Rattle.graph_terms.specs.declared.term_row.TermRow.{TermRow}
use Rattle.graph_terms.specs.Terms.{term_row, HasRow}
use Rattle.graph_meaning.specs.declared.done.Done.{Done}
use Rattle.graph_meaning.specs.Standing.{terms_of, merges_of}

mutual
  -- a finite derivation of an equation between two terms
  pub data Derives (rows : List TermRow) (merges : List (ℕ × ℕ)) : ℕ → ℕ → Type 0 where
    same_term : {s : ℕ} → s < length rows → Derives rows merges s s
    turned : {s t : ℕ} → Derives rows merges s t → Derives rows merges t s
    joined : {s t u : ℕ} → Derives rows merges s t → Derives rows merges t u → Derives rows merges s u
    merged : {s t : ℕ} → Contains merges (s, t) → Derives rows merges s t
    congruent : {s t symbol : ℕ} {ss ts : List ℕ} → HasRow rows s (term_row symbol ss) →
        HasRow rows t (term_row symbol ts) → DerivesEach rows merges ss ts → Derives rows merges s t

  -- a derivation for each two arguments at one place
  pub data DerivesEach (rows : List TermRow) (merges : List (ℕ × ℕ)) : List ℕ → List ℕ → Type 0 where
    none : DerivesEach rows merges [] []
    more : {s t : ℕ} {ss ts : List ℕ} → Derives rows merges s t → DerivesEach rows merges ss ts →
        DerivesEach rows merges (s ∷ ss) (t ∷ ts)

-- the least term that is derived equal to this one
pub record IsClassLeader (rows : List TermRow) (merges : List (ℕ × ℕ)) (term leader : ℕ) : Type 0 where
  pub same : Derives rows merges leader term
  pub least : (other : ℕ) → Derives rows merges other term → leader ≤ other

-- the same two over the terms and equations of a standing list
abbrev pub Same : List Done → ℕ → ℕ → Type 0
Same standing s t = Derives (terms_of standing) (merges_of standing) s t

abbrev pub IsLeader : List Done → ℕ → ℕ → Type 0
IsLeader standing term leader = IsClassLeader (terms_of standing) (merges_of standing) term leader
