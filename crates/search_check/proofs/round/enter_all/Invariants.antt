use Rattle.std.proofs.Common.{ℕ, List, All, take}
use Rattle.formula_assert.specs.InLevel.{KeepsLevels}
use Rattle.search_laws.specs.Rounds.{EntersAll}
use Rattle.search_branch.specs.declared.branch_values.BranchValues.{BranchValues}
use Rattle.search_branch.specs.Levels.{IsLevelOver}
use Rattle.search_branch.specs.Right.{AreValuesOf}
use Rattle.search_branch.specs.Struck.{IsPlaceOf}
use Rattle.search_check.specs.Round.{path_at, CanEnter}
use Rattle.search_check.proofs.round.enter_all.Given as goal

abbrev pub invariant-loop-instance : goal.invariant-loop-instance
invariant-loop-instance l = record {
  enters : (struck : List (ℕ × ℕ)) (spent : List ℕ) → EntersAll (take l.instance-index l.instances)
      (path_at l.fn.stack struck l.fn.done spent) (path_at l.stack struck l.done spent);
  keeps : KeepsLevels l.fn.stack l.stack;
  can : All (CanEnter l.stack) l.instances;
  right : (struck : List (ℕ × ℕ)) → All (IsPlaceOf l.fn.stack.formulas.nodes) struck →
      AreValuesOf l.fn.stack struck l.fn.values → AreValuesOf l.stack struck l.values;
  level : (before : BranchValues) → IsLevelOver before l.fn.values → IsLevelOver before l.values;
}
