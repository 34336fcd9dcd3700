-- Levels of values, which can be gone back from.
use Rattle.std.specs.Prelude.{◌≡◌, ℕ, List, [], ◌∷◌, ◌++◌, length}
use Rattle.search_watch.specs.declared.mark.Mark.{Mark}
use Rattle.search_watch.specs.Back.{IsMark, CanGoBack}
use Rattle.search_branch.specs.declared.branch_values.BranchValues.{BranchValues}

-- the innermost level was opened when the values were the earlier ones; nodes may have come since then
pub record IsLevelOver (before now : BranchValues) : Type 0 where
  pub each : length before.values.parts ≡ length before.values.shown.kinds
  pub more : List (List ℕ)
  pub parts : now.values.parts ≡ before.values.parts ++ more
  pub saved : now.values.saved ≡ before.values.saved ++ before.values.shown ∷ []
  pub mark : Mark
  pub marks : now.marks.items ≡ before.marks.items ++ mark ∷ []
  pub is_mark : IsMark before.watch mark
  pub back : CanGoBack before.watch now.watch
