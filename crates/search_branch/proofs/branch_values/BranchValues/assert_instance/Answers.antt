use Rattle.std.proofs.Common.{length, ap, ◌∙◌}
use Rattle.formula_table.specs.Formulas.{Formulas}
use Rattle.search_branch.proofs.GrowLemmas.{has_grown, not_fewer, lost_still}
use Rattle.search_branch.proofs.branch_values.BranchValues.assert_instance.Goals as goal

pub returns-then-self-clause-values : goal.returns-then-self-clause-values
returns-then-self-clause-values c struck stand right =
    lost_still c.args.stack.now c.assert_instance.new.self struck c.args.self.now
    (c.over_law.ensures.stands c.args.stack.now c.assert_instance.new.self c.assert_instance.ensures.levels)
    c.if-self.true c.depth-rules_after.ensures.rules.formulas.table right

pub grow-requires-clause-grown : goal.grow-requires-clause-grown
grow-requires-clause-grown c = (
  c.args.stack.now,
  c.requires.values.0,
  has_grown c.args.stack.now c.enter_instance.new.self c.args.forall c.in_ok-root.root c.args.tuple.now
      c.len-first.result c.terms_law.ensures.adds c.in_ok-root.ensures.ok c.enter_instance.ensures.levels
      c.depth-rules.ensures.rules c.depth-rules_entered.ensures.rules
      (c.len-first.ensures.value ∙ ap (λ (formulas : Formulas). length formulas.nodes) c.formulas.ensures),
  c.requires.values.2,
)

pub grow-requires-clause-first : goal.grow-requires-clause-first
grow-requires-clause-first c =
    not_fewer c.args.stack.now c.enter_instance.new.self c.len-first.result c.enter_instance.ensures.levels
    (c.len-first.ensures.value ∙ ap (λ (formulas : Formulas). length formulas.nodes) c.formulas.ensures)

pub assert-requires-clause-values : goal.assert-requires-clause-values
assert-requires-clause-values c = (
  c.requires.values.0,
  c.in_ok-grow.ensures.values c.args.stack.now c.requires.values.0
      (has_grown c.args.stack.now c.enter_instance.new.self c.args.forall c.in_ok-root.root c.args.tuple.now
      c.len-first.result c.terms_law.ensures.adds c.in_ok-root.ensures.ok c.enter_instance.ensures.levels
      c.depth-rules.ensures.rules c.depth-rules_entered.ensures.rules
      (c.len-first.ensures.value ∙ ap (λ (formulas : Formulas). length formulas.nodes) c.formulas.ensures))
      c.requires.values.1 c.requires.values.2,
)

pub returns-in_err-assert-clause-levels : goal.returns-in_err-assert-clause-levels
returns-in_err-assert-clause-levels c =
    c.over_law.ensures.both c.args.stack.now c.enter_instance.new.self c.assert.new.stack
    c.enter_instance.ensures.levels
    (c.over_law.ensures.over c.enter_instance.new.self c.assert.new.stack c.assert.ensures.more)

pub returns-clause-levels : goal.returns-clause-levels
returns-clause-levels c =
    c.over_law.ensures.both c.args.stack.now c.enter_instance.new.self c.assert.new.stack
    c.enter_instance.ensures.levels
    (c.over_law.ensures.over c.enter_instance.new.self c.assert.new.stack c.assert.ensures.more)

pub returns-clause-values : goal.returns-clause-values
returns-clause-values c struck stand right =
    c.in_ok-assert.ensures.values struck
    (c.in_ok-grow.ensures.values c.args.stack.now struck
    (has_grown c.args.stack.now c.enter_instance.new.self c.args.forall c.in_ok-root.root c.args.tuple.now
    c.len-first.result c.terms_law.ensures.adds c.in_ok-root.ensures.ok c.enter_instance.ensures.levels
    c.depth-rules.ensures.rules c.depth-rules_entered.ensures.rules
    (c.len-first.ensures.value ∙ ap (λ (formulas : Formulas). length formulas.nodes) c.formulas.ensures))
    stand right)
