-- Values that are right for what is held.
use Rattle.std.specs.Prelude.{◌≡◌, ◌↔◌, ℕ, false, IsTrue, List, length}
use Rattle.formula_table.specs.Formulas.{Formulas, IsFormulaTable}
use Rattle.formula_assert.specs.Held.{Held}
use Rattle.formula_assert.specs.Assertions.{Assertions, held_of}
use Rattle.search_values.specs.Kept.{given_of}
use Rattle.search_watch.specs.Service.{Serves, HasClash, service}
use Rattle.search_branch.specs.declared.branch_values.BranchValues.{BranchValues}
use Rattle.search_branch.specs.Given.{IsGivenBy, ends_of}

-- the values are given by what is held, and the watch serves it
pub record AreCurrent (formulas : Formulas) (now : Held) (struck : List (ℕ × ℕ)) (values : BranchValues) : Type 0
  where
    pub given : IsGivenBy formulas now struck (given_of values.values)
    pub serves : Serves (service now.graph.standing (ends_of 0 formulas.nodes) (length formulas.nodes)) values.watch

-- the values are those of the assertions, with these places struck; where the graph has a clash this is known, and
-- nothing else
pub record AreValuesOf (now : Assertions) (struck : List (ℕ × ℕ)) (values : BranchValues) : Type 0 where
  pub table : IsFormulaTable now.formulas
  pub lost : IsTrue values.lost ↔ HasClash now.graph.standing
  pub current : values.lost ≡ false → AreCurrent now.formulas (held_of now) struck values
