-- Values of a branch at the start, and the next step by them.
use Rattle.std.proofs.Common.{◌≡◌, inl, inr, ◌↔◌, ℕ, ◌<◌, true, IsTrue, List, length, map, Contains, sym, ap, subst, arith}
use Rattle.std.proofs.Common.{◌∙◌}
use Rattle.std.proofs.lemmas.List.{length-map}
use Rattle.formula_table.specs.Formulas.{IsFormulaTable}
use Rattle.formula_truth.specs.declared.truth.Truth.{Truth}
use Rattle.formula_assert.specs.Assertions.{Assertions, held_of}
use Rattle.search_values.specs.Given.{Given}
use Rattle.search_values.specs.Kept.{given_of}
use Rattle.search_watch.specs.Service.{Serves, HasClash, service}
use Rattle.search_laws.specs.Closing as closing
use Rattle.search_branch.specs.declared.branch_values.BranchValues.{BranchValues}
use Rattle.search_branch.specs.declared.step.Step.TheVariants.{Lost}
use Rattle.search_branch.specs.Given.{IsGivenBy, IsLeafTruth, kind_in, ends_of, forall_truth}
use Rattle.search_branch.specs.Right.{AreValuesOf}
use Rattle.search_branch.specs.Steps.{IsStep, branch_of}
use Rattle.search_branch.specs.Grown.{ComesBehind}
use Rattle.search_branch.specs.Told.{TellsAll}
use Rattle.search_branch.specs.Struck.{StrikesAll}

-- ---- the next step

module _ (now : Assertions) (struck : List (ℕ × ℕ)) (values : BranchValues) (right : AreValuesOf now struck values) where
  -- a clash is a conflict
  clash_is : HasClash now.graph.standing → IsStep now.formulas (branch_of now struck) Lost
  clash_is (inl same) = closing.Conflict.true_is_false same
  clash_is (inr (a, b, among, same)) = closing.Conflict.difference among same

  pub lost_step : values.lost ≡ true → IsStep now.formulas (branch_of now struck) Lost
  lost_step lost = clash_is (right.lost.0 lost)

-- ---- values at the start

-- what is told to nodes of which nothing was told, and struck then, is what they are given
module _ (now : Assertions) (struck : List (ℕ × ℕ)) (none old mid new : Given)
    (behind : ComesBehind now.formulas.nodes 0 none old) (tells : TellsAll now old mid)
    (strikes : StrikesAll struck mid new) where
  kinds_told : mid.kinds ≡ map kind_in now.formulas.nodes
  kinds_told = tells.kinds ∙ behind.kinds

  many : length mid.kinds ≡ length now.formulas.nodes
  many = ap length kinds_told ∙ length-map now.formulas.nodes kind_in

  -- nothing was struck before
  not_struck : (n place : ℕ) → n < length now.formulas.nodes → mid.struck n place ≡ true → ⊥
  not_struck n place stands on = cc (tells.struck n place, behind.later_struck n place (omega arith) stands, on)

  just_these : (n place : ℕ) → n < length now.formulas.nodes →
      (new.struck n place ≡ true) ↔ Contains struck (n, place)
  just_these n place stands = (
    λ on. elim ((strikes.struck n place).0 on) [
      | inl before ↦ absurd (not_struck n place stands before)
      | inr among ↦ among
    ],
    λ among. (strikes.struck n place).1 (inr among),
  )

  told_given : IsGivenBy now.formulas (held_of now) struck new
  told_given = record {
    kinds = strikes.kinds ∙ kinds_told;
    parts = strikes.parts ∙ tells.parts ∙ behind.parts;
    leaf = λ n leaf has. subst (λ (truth : Truth). IsLeafTruth now.graph.standing leaf truth)
        (sym (strikes.leaf n)) (tells.told n leaf has);
    foralls = λ n forall has. strikes.leaf n ∙ tells.foralls n forall has
        ∙ ap forall_truth (sym (strikes.asserted n));
    asserted = λ n stands.
        let was = tells.asserted n (subst (λ (count : ℕ). n < count) (sym many) stands) in
        (λ on. was.0 (sym (strikes.asserted n) ∙ on), λ on. strikes.asserted n ∙ was.1 on);
    struck_are = just_these;
  }

-- the values are right where all was told, and these places were struck then
pub right_start : (now : Assertions) (struck : List (ℕ × ℕ)) (none fresh told : Given) (values : BranchValues) →
    IsFormulaTable now.formulas → (IsTrue values.lost ↔ HasClash now.graph.standing) →
    ComesBehind now.formulas.nodes 0 none fresh → TellsAll now fresh told → StrikesAll struck told (given_of values.values) →
    Serves (service now.graph.standing (ends_of 0 now.formulas.nodes) (length now.formulas.nodes)) values.watch →
    AreValuesOf now struck values
right_start now struck none fresh told values table lost behind tells strikes serves = record {
  table = table;
  lost = lost;
  current = λ _. record {
    given = told_given now struck none fresh told (given_of values.values) behind tells strikes;
    serves = serves;
  };
}
