-- Splits under way.
use Rattle.std.proofs.Common.{◌≡◌, ℕ, false, List, [], ◌∷◌, ◌++◌, ap, ◌∙◌, append_assoc, inl, inr}
use Rattle.std.proofs.lemmas.Bool.{false_from_ne_true, iff_false}
use Rattle.formula_table.specs.Formulas.{Formulas}
use Rattle.formula_assert.specs.Assertions.{Assertions}
use Rattle.formula_assert.specs.InLevel.{KeepsLevels}
use Rattle.match_store.specs.declared.instance.Instance.{Instance}
use Rattle.search_watch.specs.Service.{HasClash}
use Rattle.search_laws.specs.Branch.{Branch}
use Rattle.search_laws.specs.Closing.{Conflict}
use Rattle.search_laws.specs.Closing as closing
use Rattle.search_branch.specs.declared.branch_values.BranchValues.{BranchValues}
use Rattle.search_branch.specs.Right.{AreValuesOf}
use Rattle.search_branch.specs.Levels.{IsLevelOver}
use Rattle.search_branch.specs.Steps.{branch_of, HasNoConflict}
use Rattle.search_check.specs.declared.aside.Aside.{Aside}
use Rattle.search_check.specs.UnderWay.{Place, Half, place_of, AreHalves}

-- a clash is a conflict
clash_conflict : (formulas : Formulas) (branch : Branch) → HasClash branch.held.graph.standing →
    Conflict formulas branch
clash_conflict formulas branch (inl same) = closing.Conflict.true_is_false same
clash_conflict formulas branch (inr clash) = closing.Conflict.difference clash.2 clash.3

-- where there is no conflict, the values know of no clash
pub calm_here : (now : Assertions) (struck : List (ℕ × ℕ)) (values : BranchValues) → AreValuesOf now struck values →
    HasNoConflict now.formulas (branch_of now struck) → values.lost ≡ false
calm_here now struck values right no_conflict = false_from_ne_true values.lost
    (λ lost. no_conflict (clash_conflict now.formulas (branch_of now struck) (right.lost.0 lost)))

-- nor do other values of the same where these know of none
pub calm_alike : (now : Assertions) (struck : List (ℕ × ℕ)) (one other : BranchValues) → AreValuesOf now struck one →
    one.lost ≡ false → AreValuesOf now struck other → other.lost ≡ false
calm_alike now struck one other right calm alike =
    false_from_ne_true other.lost (λ lost. iff_false right.lost calm (alike.lost.0 lost))

-- what came on the way from one place to a later one
pub record ComesTo (here next : Place) : Type 0 where
  pub keeps : KeepsLevels here.now next.now
  pub struck : List (ℕ × ℕ)
  pub struck_are : next.struck ≡ here.struck ++ struck
  pub done : List Instance
  pub done_are : next.done ≡ here.done ++ done
  pub spent : List ℕ
  pub spent_are : next.spent ≡ here.spent ++ spent
  pub levels : (before : BranchValues) → IsLevelOver before here.values → IsLevelOver before next.values

-- a front of a front is one
front_more : {X : Type 0} (front later more here next : List X) → here ≡ front ++ later → next ≡ here ++ more →
    next ≡ front ++ (later ++ more)
front_more front later more here next is also = also ∙ ap (λ xs. xs ++ more) is ∙ append_assoc front later more

module _ (both : (first second third : Assertions) → KeepsLevels first second → KeepsLevels second third →
    KeepsLevels first third) where
  -- more is held than at the start
  pub halves_over : (start : Assertions) (halves : List Half) (asides : List Aside) (here : Place) →
      AreHalves start halves asides here → KeepsLevels start here.now
  halves_over start [] asides here are = are.1
  halves_over start (half ∷ halves) asides here are = both start half.before here.now
      (halves_over start halves are.0 (place_of half) are.3) are.2.keeps

  -- the splits stay under way
  pub halves_more : (start : Assertions) (halves : List Half) (asides : List Aside) (here next : Place) →
      ComesTo here next → AreHalves start halves asides here → AreHalves start halves asides next
  halves_more start [] asides here next comes are = (are.0, both start here.now next.now are.1 comes.keeps)
  halves_more start (half ∷ halves) asides here next comes are = (
    are.0,
    are.1,
    record {
      is_half = are.2.is_half;
      mark = are.2.mark;
      keeps = both half.before here.now next.now are.2.keeps comes.keeps;
      so_many_struck = are.2.so_many_struck;
      so_many_done = are.2.so_many_done;
      so_many_spent = are.2.so_many_spent;
      struck_later = are.2.struck_later ++ comes.struck;
      struck_are = front_more half.struck are.2.struck_later comes.struck here.struck next.struck
          are.2.struck_are comes.struck_are;
      done_later = are.2.done_later ++ comes.done;
      done_are = front_more half.done are.2.done_later comes.done here.done next.done are.2.done_are comes.done_are;
      spent_later = are.2.spent_later ++ comes.spent;
      spent_are = front_more half.spent are.2.spent_later comes.spent here.spent next.spent are.2.spent_are
          comes.spent_are;
      level = comes.levels half.values are.2.level;
    },
    are.3,
  )
