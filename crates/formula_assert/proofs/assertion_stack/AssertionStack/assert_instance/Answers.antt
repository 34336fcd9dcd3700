use Rattle.std.proofs.Common.{length, sym, subst}
use Rattle.formula_assert.specs.InLevel.{KeepsLevels}
use Rattle.formula_assert.proofs.LevelLemmas.{same_levels, over_levels, both_levels}
use Rattle.formula_assert.proofs.InstanceLemmas.{instance_undone}
use Rattle.formula_assert.proofs.assertion_stack.AssertionStack.assert_instance.Goals as goal

pub returns-in-Err-clause-fault : goal.returns-in-Err-clause-fault
returns-in-Err-clause-fault c =
    instance_undone c.args.self.now c.back_to.new.self c.args.forall c.args.tuple.now (length c.args.tuple.now)
    c.requires.variables
    (c.back_to.ensures c.args.self.now c.mark-mark.ensures
    (both_levels c.args.self.now c.enter_instance.new.self c.assert_entered.new.self c.enter_instance.ensures.levels
    (over_levels c.enter_instance.new.self c.assert_entered.new.self c.assert_entered.ensures.more)))

pub returns-in-Err-clause-levels : goal.returns-in-Err-clause-levels
returns-in-Err-clause-levels c =
    subst (KeepsLevels c.args.self.now)
    (sym (c.back_to.ensures c.args.self.now c.mark-mark.ensures
    (both_levels c.args.self.now c.enter_instance.new.self c.assert_entered.new.self c.enter_instance.ensures.levels
    (over_levels c.enter_instance.new.self c.assert_entered.new.self c.assert_entered.ensures.more))))
    (same_levels c.args.self.now)
