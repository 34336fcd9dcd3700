-- What it is to assert a formula, over a tuple of terms where it has variables: it is entered, and then its root is
-- asserted.
use Rattle.std.specs.Prelude.{◌≡◌, ℕ, List, []}
use Rattle.graph_terms.specs.declared.term_row.TermRow.{TermRow}
use Rattle.graph_meaning.specs.Standing.{terms_of}
use Rattle.graph_meaning.specs.State.{GraphState}
use Rattle.formula_draft.specs.Draft.{Formula}
use Rattle.formula_table.specs.declared.enter_fault.EnterFault.{EnterFault}
use Rattle.formula_table.specs.declared.enter_fault.EnterFault.TheVariants.{TermsFull, NodesFull, Memory}
use Rattle.formula_table.specs.Entry.{Enters, EntersRows, FillsTerms, LacksNodes}
use Rattle.match_graph.specs.GraphTerms.{with_terms}
use Rattle.formula_assert.specs.Held.{held}
use Rattle.formula_assert.specs.Asserts.{Asserts}
use Rattle.formula_assert.specs.Assertions.{Assertions, held_of}

-- the formula was entered over the tuple and the terms of the graph, which gained some, and then its root was asserted
pub record AssertsOver (formula : Formula) (tuple : List ℕ) (before after : Assertions) : Type 0 where
  pub entered : GraphState
  pub root : ℕ
  pub enters : Enters (λ more. entered ≡ with_terms before.graph more) formula tuple (terms_of before.graph.standing)
      before.graph.limit before.formulas after.formulas root
  pub asserts : Asserts after.formulas root (held entered before.asserted) (held_of after)
  pub saved_is : after.saved ≡ before.saved

-- the formula, which has no variables, was entered and then its root was asserted
abbrev pub AssertsFormula : Formula → Assertions → Assertions → Type 0
AssertsFormula formula before after = AssertsOver formula [] before after

-- all is as before but for the graph
pub record KeepsFormulas (before after : Assertions) : Type 0 where
  pub formulas_are : after.formulas ≡ before.formulas
  pub asserted_are : after.asserted ≡ before.asserted
  pub saved_are : after.saved ≡ before.saved

-- the first terms of the formula over the tuple were added
pub record GainsTerms (formula : Formula) (tuple : List ℕ) (before after : GraphState) : Type 0 where
  pub added : List TermRow
  pub terms : List ℕ
  pub grew : after ≡ with_terms before added
  pub enters : EntersRows formula tuple (terms_of before.standing) before.limit added terms

-- the formula was not asserted over the tuple: there was no room for its next term, or none for its next node once the
-- graph had gained all its terms, or memory was refused; but for its first terms all is as before
abbrev pub StopsOver : Formula → List ℕ → Assertions → Assertions → EnterFault → Type 0
StopsOver formula tuple before after TermsFull = FillsTerms (λ more. after.graph ≡ with_terms before.graph more)
    formula tuple (terms_of before.graph.standing) before.graph.limit × KeepsFormulas before after
StopsOver formula tuple before after NodesFull = LacksNodes (λ more. after.graph ≡ with_terms before.graph more)
    formula tuple (terms_of before.graph.standing) before.graph.limit before.formulas × KeepsFormulas before after
StopsOver formula tuple before after Memory = GainsTerms formula tuple before.graph after.graph ×
    KeepsFormulas before after

-- the formula, which has no variables, was not asserted
abbrev pub StopsAssert : Formula → Assertions → Assertions → EnterFault → Type 0
StopsAssert formula before after fault = StopsOver formula [] before after fault
