-- The rows of a table under their keys.
use Rattle.std.specs.Prelude.{◌≡◌, ℕ, List, [], ◌∷◌, ◌++◌, slice_get, Some, Vec}
use Rattle.std.specs.declared.alloc.Global.{Global}
use Rattle.graph_terms.specs.declared.term_row.TermRow.{TermRow}

-- the key of a row: its symbol, and then its arguments
abbrev pub key_of : TermRow → List ℕ
key_of row = row.symbol ∷ row.args

-- each row stands under its key
abbrev pub IsKeyed : List (Vec ℕ Global × TermRow) → Type 0
IsKeyed entries = (term : ℕ) (entry : Vec ℕ Global × TermRow) → slice_get entries term ≡ Some entry →
    entry.0.items ≡ key_of entry.1

-- the row was put last, under its key
abbrev pub PutsRow : List (Vec ℕ Global × TermRow) → List (Vec ℕ Global × TermRow) → TermRow → Type 0
PutsRow old new row = (key : Vec ℕ Global) × (key.items ≡ key_of row) × (new ≡ old ++ (key, row) ∷ [])
