-- Marks of what is held.
use Rattle.std.specs.Prelude.{◌≡◌, ◌≤◌, length, All}
use Rattle.graph_meaning.specs.Standing.{terms_of}
use Rattle.formula_assert.specs.declared.mark.Mark.{Mark}
use Rattle.formula_assert.specs.Assertions.{Saved, Assertions}
use Rattle.formula_assert.specs.Stands.{IsTableOver}

-- the level was opened with no more nodes, foralls and asserted nodes than there are
pub record IsWithin (now : Assertions) (level : Saved) : Type 0 where
  pub nodes : length level.formulas.nodes ≤ length now.formulas.nodes
  pub foralls : length level.formulas.foralls ≤ length now.formulas.foralls
  pub asserted : length level.asserted ≤ length now.asserted

-- the formulas are a table over terms that stand, and no level was opened with more than there is
pub record CanBeMarked (now : Assertions) : Type 0 where
  pub formulas : IsTableOver (length (terms_of now.graph.standing)) now.formulas
  pub levels_within : All (IsWithin now) now.saved

-- so many operations count as done, so many nodes and foralls stand in the table of formulas, and so many nodes are
-- asserted
pub record IsMark (now : Assertions) (mark : Mark) : Type 0 where
  pub version : now.graph.done ≡ mark.version
  pub nodes : length now.formulas.nodes ≡ mark.nodes
  pub foralls : length now.formulas.foralls ≡ mark.foralls
  pub asserted : length now.asserted ≡ mark.asserted
  pub can_be : CanBeMarked now
