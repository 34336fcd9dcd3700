-- What adding a row does to a table that is grown by rows.
use Rattle.std.specs.Prelude.{◌≡◌, ℕ, ◌<◌, List, [], ◌∷◌, length}
use Rattle.graph_terms.specs.declared.term_row.TermRow.{TermRow}
use Rattle.graph_terms.specs.declared.table_fault.TableFault.{TableFault}
use Rattle.graph_terms.specs.declared.table_fault.TableFault.TheVariants.{Full, Memory}
use Rattle.graph_terms.specs.Terms.{HasRow, IsAbsent}

-- the row is under this number: it is new, within the limit, and the table grew by it, or it stood and nothing grew
pub data AddGrows (old : List TermRow) (limit : ℕ) (new : List TermRow) (grown : List TermRow →
    Type 0) (row : TermRow) (term : ℕ) : Type 0 where
  new_row : HasRow new term row → IsAbsent old row → length old < limit → grown (row ∷ []) →
      AddGrows old limit new grown row term
  old_row : HasRow old term row → grown [] → AddGrows old limit new grown row term

-- the row is new and as many rows stand as may, and all stays; or memory was refused
abbrev pub AddFails : List TermRow → ℕ → Type 0 → Type 0 → TermRow → TableFault → Type 0
AddFails rows limit unchanged refused row Full = (length rows ≡ limit) × IsAbsent rows row × unchanged
AddFails rows limit unchanged refused row Memory = refused
