-- What it is to assert an instance of a forall: its body over a tuple of terms.
use Rattle.std.specs.Prelude.{◌≡◌, ℕ, ◌<◌, List, length, slice_get, Some, All}
use Rattle.graph_meaning.specs.Standing.{terms_of}
use Rattle.formula_table.specs.declared.enter_fault.EnterFault.{EnterFault}
use Rattle.formula_table.specs.declared.table_forall.TableForall.{TableForall}
use Rattle.formula_table.specs.Entry.{Enters}
use Rattle.match_graph.specs.GraphTerms.{with_terms}
use Rattle.formula_assert.specs.Assertions.{Assertions}
use Rattle.formula_assert.specs.AssertFormula.{AssertsOver, StopsOver}

-- the terms of the tuple stand
abbrev pub TermsStand : Assertions → List ℕ → Type 0
TermsStand now tuple = All (λ term. term < length (terms_of now.graph.standing)) tuple

-- the body of the forall with this number was entered over the tuple, with its root under this number, and nothing was
-- asserted
pub record EntersBody (forall : ℕ) (tuple : List ℕ) (before after : Assertions) (root : ℕ) : Type 0 where
  pub quantified : TableForall
  pub is_forall : slice_get before.formulas.foralls forall ≡ Some quantified
  pub enters : Enters (λ more. after.graph ≡ with_terms before.graph more) quantified.body tuple
      (terms_of before.graph.standing) before.graph.limit before.formulas after.formulas root
  pub asserted_is : after.asserted ≡ before.asserted
  pub saved_is : after.saved ≡ before.saved

-- the body of the forall with this number was entered over the tuple, and then its root was asserted
pub record AssertsInstance (forall : ℕ) (tuple : List ℕ) (before after : Assertions) : Type 0 where
  pub quantified : TableForall
  pub is_forall : slice_get before.formulas.foralls forall ≡ Some quantified
  pub asserts_body : AssertsOver quantified.body tuple before after

-- the body of the forall with this number was not asserted over the tuple
pub record StopsAssertInstance (forall : ℕ) (tuple : List ℕ) (before after : Assertions) (fault : EnterFault) : Type 0
  where
    pub quantified : TableForall
    pub is_forall : slice_get before.formulas.foralls forall ≡ Some quantified
    pub stops_body : StopsOver quantified.body tuple before after fault
