-- The closure of the merges, in labels and signatures.
use Rattle.std.specs.Prelude.{◌≡◌, ◌<◌, ◌⊎◌, ℕ, List, ◌∷◌, length, Some, map, slice_get, slice_index, Contains}
use Rattle.graph_terms.specs.declared.term_row.TermRow.{TermRow}
pub use Rattle.graph_classes.specs.Table.{found}
use Rattle.graph_meaning.specs.Same.{Derives, DerivesEach}

-- a term's symbol, with the labels of its arguments
abbrev pub signature : List ℕ → TermRow → List ℕ
signature labels row = row.symbol ∷ map (slice_index labels) row.args

-- a labelling of the first n terms that is the same where the labels are
abbrev pub Respects : ℕ → List ℕ → (ℕ → ℕ) → Type 0
Respects n labels g = (s t : ℕ) → s < n → t < n → slice_index labels s ≡ slice_index labels t → g s ≡ g t

-- the labels and the pending pairs join the two terms
abbrev pub Joined : ℕ → List ℕ → List (ℕ × ℕ) → ℕ → ℕ → Type 0
Joined n labels pending u v = (g : ℕ → ℕ) → Respects n labels g → ((a b : ℕ) → Contains pending (a, b) → g a ≡ g b) →
    g u ≡ g v

-- an entry's term has the symbol of the key, and arguments that are the same as the key's labels, read as terms
pub record EntryIsSame (rows : List TermRow) (merges : List (ℕ × ℕ)) (key : List ℕ) (term : ℕ) : Type 0 where
  pub row : TermRow
  pub is_row : slice_get rows term ≡ Some row
  pub named : List ℕ
  pub key_is : key ≡ row.symbol ∷ named
  pub same : DerivesEach rows merges row.args named

-- what the labels, the table and the pending pairs say is derived
pub record IsSound (rows : List TermRow) (merges : List (ℕ × ℕ)) (labels : List ℕ) (table : List (List ℕ × ℕ))
    (pending : List (ℕ × ℕ)) : Type 0 where
  pub label : (t : ℕ) → t < length rows → Derives rows merges t (slice_index labels t)
  pub entry : (key : List ℕ) (term : ℕ) → Contains table (key, term) → EntryIsSame rows merges key term
  pub pair : (a b : ℕ) → Contains pending (a, b) → Derives rows merges a b

-- a term's signature stands in the table at a term that is joined to it
pub record IsSigned (n : ℕ) (labels : List ℕ) (table : List (List ℕ × ℕ)) (pending : List (ℕ × ℕ)) (term : ℕ)
    (row : TermRow) : Type 0 where
  pub at : ℕ
  pub is_found : found table (signature labels row) ≡ Some at
  pub joined : Joined n labels pending term at

-- the merges are joined, and each term is signed but for those that are still to sign
pub record IsComplete (rows : List TermRow) (merges : List (ℕ × ℕ)) (labels : List ℕ) (table : List (List ℕ × ℕ))
    (pending : List (ℕ × ℕ)) (to_sign : List ℕ) : Type 0 where
  pub merge : (s t : ℕ) → Contains merges (s, t) → Joined (length rows) labels pending s t
  pub signed : (u : ℕ) (row : TermRow) → slice_get rows u ≡ Some row →
      Contains to_sign u ⊎ IsSigned (length rows) labels table pending u row
