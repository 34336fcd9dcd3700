-- Instances of foralls: the body of a forall, entered over a tuple of terms, one for each of its variables.
use Rattle.std.specs.Prelude.{◌≡◌, ℕ, List, slice_get, Some}
use Rattle.graph_terms.specs.declared.term_row.TermRow.{TermRow}
use Rattle.formula_draft.specs.Draft.{Formula}
use Rattle.formula_table.specs.declared.table_forall.TableForall.{TableForall}
use Rattle.formula_table.specs.declared.enter_fault.EnterFault.{EnterFault}
use Rattle.formula_table.specs.Formulas.{Formulas}
use Rattle.formula_table.specs.Entry.{Enters, StopsEntry}

-- the forall with this number has so many variables
abbrev pub HasVariables : Formulas → ℕ → ℕ → Type 0
HasVariables table forall n = (quantified : TableForall) × (slice_get table.foralls forall ≡ Some quantified) ×
    (quantified.variables ≡ n)

-- the forall with this number has this body
abbrev pub HasBody : Formulas → ℕ → Formula → Type 0
HasBody table forall body = (quantified : TableForall) × (slice_get table.foralls forall ≡ Some quantified) ×
    (quantified.body ≡ body)

-- the body of the forall with this number was entered over the tuple, and its root has this number in the new table
pub record EntersInstance (grown : List TermRow → Type 0) (forall : ℕ) (tuple : List ℕ) (rows : List TermRow)
    (limit : ℕ) (old new : Formulas) (number : ℕ) : Type 0 where
  pub quantified : TableForall
  pub is_forall : slice_get old.foralls forall ≡ Some quantified
  pub enters : Enters grown quantified.body tuple rows limit old new number

-- the body of the forall with this number was not entered over the tuple
pub record StopsInstance (grown refused : List TermRow → Type 0) (forall : ℕ) (tuple : List ℕ) (rows : List TermRow)
    (limit : ℕ) (old : Formulas) (fault : EnterFault) : Type 0 where
  pub quantified : TableForall
  pub is_forall : slice_get old.foralls forall ≡ Some quantified
  pub stops : StopsEntry grown refused quantified.body tuple rows limit old fault
