-- Tables of terms.
use Rattle.std.specs.Prelude.{◌≡◌, ℕ, ◌<◌, ◌≤◌, ◌⊎◌, List, [], ◌∷◌, ◌++◌, length, slice_get, Some, All}
use Rattle.graph_terms.specs.declared.term_row.TermRow.{TermRow}

-- the row of a symbol and its arguments
abbrev pub term_row : ℕ → List ℕ → TermRow
term_row symbol args = record { symbol = symbol; args = args }

-- the most arguments that a row may have
abbrev pub most_args : ℕ
most_args = 255

-- the rows of true and false, with which each table begins
abbrev pub first_rows : List TermRow
first_rows = term_row 0 [] ∷ term_row 1 [] ∷ []

-- the term with this number has this row
abbrev pub HasRow : List TermRow → ℕ → TermRow → Type 0
HasRow rows term row = slice_get rows term ≡ Some row

-- a table: it begins with true and false, arguments are earlier, and no row stands twice
pub record IsTable (rows : List TermRow) : Type 0 where
  pub true_row : HasRow rows 0 (term_row 0 [])
  pub false_row : HasRow rows 1 (term_row 1 [])
  pub earlier : (term : ℕ) (row : TermRow) → HasRow rows term row → All (λ arg. arg < term) row.args
  pub few_args : (term : ℕ) (row : TermRow) → HasRow rows term row → length row.args ≤ most_args
  pub once : (s t : ℕ) (row : TermRow) → HasRow rows s row → HasRow rows t row → s ≡ t

-- no term has this row
abbrev pub IsAbsent : List TermRow → TermRow → Type 0
IsAbsent rows row = (term : ℕ) → HasRow rows term row → ⊥

-- the table has the row under this number, which is a new one at its end or an old one
pub record Enters (old new : List TermRow) (row : TermRow) (term : ℕ) : Type 0 where
  pub has : HasRow new term row
  pub grows : ((new ≡ old) × HasRow old term row) ⊎ ((new ≡ old ++ row ∷ []) × IsAbsent old row)

-- a table, and how many rows it may have
pub record Table : Type 0 where
  pub rows : List TermRow
  pub limit : ℕ

-- the row is new, and as many rows stand as may
pub record IsFull (table : Table) (row : TermRow) : Type 0 where
  pub at_limit : length table.rows ≡ table.limit
  pub new_row : IsAbsent table.rows row

-- the table took the row under this number, within its limit
pub record Takes (old new : Table) (row : TermRow) (term : ℕ) : Type 0 where
  pub enters : Enters old.rows new.rows row term
  pub limit : new.limit ≡ old.limit
  pub within : length new.rows ≤ new.limit
