-- What stood at the start, and where a search goes from a step to the next.
use Rattle.std.proofs.Common.{◌≡◌, ℕ, List, length, subst}
use Rattle.formula_assert.specs.Assertions.{Assertions}
use Rattle.formula_assert.specs.InLevel.{KeepsLevels}
use Rattle.search_branch.specs.declared.branch_values.BranchValues.{BranchValues}
use Rattle.search_branch.specs.declared.step.Step.{Step}
use Rattle.search_branch.specs.Right.{AreValuesOf}
use Rattle.search_branch.specs.Steps.{branch_of, IsStep, IsWithin}
use Rattle.search_check.specs.declared.aside.Aside.{Aside}
use Rattle.search_check.specs.UnderWay.{Place, IsUnderWay}
use Rattle.search_check.proofs.HalfLemmas.{halves_over}

module _ (both : (first second third : Assertions) → KeepsLevels first second → KeepsLevels second third →
    KeepsLevels first third) where
  -- a search under way keeps the levels of the start
  pub keeps_start : (rounds : ℕ) (start : Assertions) (asides : List Aside) (here : Place) →
      IsUnderWay rounds start asides here →
      KeepsLevels start here.now
  keeps_start rounds start asides here searching =
      halves_over both start searching.halves asides here searching.are

  -- and so does what keeps them from there
  pub keeps_on : (rounds : ℕ) (start : Assertions) (asides : List Aside) (here : Place) (next : Assertions) →
      IsUnderWay rounds start asides here → KeepsLevels here.now next → KeepsLevels start next
  keeps_on rounds start asides here next searching keeps = both start here.now next
      (keeps_start rounds start asides here searching) keeps

-- what was found, of this step
module _ (now : Assertions) (struck : List (ℕ × ℕ)) (values : BranchValues) (found step : Step)
    (same : found ≡ step) (right : AreValuesOf now struck values) where
  pub step_there : ((stood : Assertions) (places : List (ℕ × ℕ)) → AreValuesOf stood places values →
      IsStep stood.formulas (branch_of stood places) found) → IsStep now.formulas (branch_of now struck) step
  step_there is = subst (IsStep now.formulas (branch_of now struck)) same (is now struck right)

  pub within_there : ((stood : Assertions) (places : List (ℕ × ℕ)) → AreValuesOf stood places values →
      IsWithin (length stood.formulas.nodes) found) → IsWithin (length now.formulas.nodes) step
  within_there within = subst (IsWithin (length now.formulas.nodes)) same (within now struck right)
