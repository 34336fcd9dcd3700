use Rattle.std.proofs.Common.{rules}
use Rattle.formula_assert.specs.AssertInstance.{StopsAssertInstance}
use Rattle.formula_assert.specs.StackInside.{assertions_with}
use Rattle.formula_assert.proofs.InstanceLemmas.{instance_root, instance_stack, instance_levels, instance_entered, no_instance_stack, no_instance_asserted, no_instance_keeps}
use Rattle.formula_assert.proofs.assertion_stack.AssertionStack.enter_instance.Goals as goal

pub invariant_of-self : goal.invariant_of-self
invariant_of-self c =
    no_instance_stack c.self.inside.graph c.instance.new.terms c.self.inside.formulas c.instance.new.self c.self.inside.asserted c.self.inside.levels.items c.self.invariant c.args.self.now c.self.view_is c.args.forall c.args.tuple.now c.in_err-root.field-0.0 c.in_err-root.ensures.err c.in_err-root.ensures.fault

pub returns-in_err-root-clause-fault : goal.returns-in_err-root-clause-fault
returns-in_err-root-clause-fault c =
    let stops : StopsAssertInstance c.args.forall c.args.tuple.now c.args.self.now (assertions_with c.instance.new.terms c.instance.new.self c.self.inside.asserted c.self.inside.levels.items) c.in_err-root.field-0.0 =
    no_instance_asserted c.self.inside.graph c.instance.new.terms c.self.inside.formulas c.instance.new.self c.self.inside.asserted c.self.inside.levels.items c.self.invariant c.args.self.now c.self.view_is c.args.forall c.args.tuple.now c.in_err-root.field-0.0 c.in_err-root.ensures.err c.in_err-root.ensures.fault in
    search rules

pub returns-in_err-root-clause-levels : goal.returns-in_err-root-clause-levels
returns-in_err-root-clause-levels c =
    no_instance_keeps c.self.inside.graph c.instance.new.terms c.self.inside.formulas c.instance.new.self c.self.inside.asserted c.self.inside.levels.items c.self.invariant c.args.self.now c.self.view_is c.args.forall c.args.tuple.now c.in_err-root.field-0.0 c.in_err-root.ensures.err c.in_err-root.ensures.fault

pub invariant_of-self-2 : goal.invariant_of-self-2
invariant_of-self-2 c =
    instance_stack c.self.inside.graph c.instance.new.terms c.self.inside.formulas c.instance.new.self c.self.inside.asserted c.self.inside.levels.items c.self.invariant c.args.self.now c.self.view_is c.mark-mark.ensures.can_be.formulas.table c.args.forall c.args.tuple.now c.requires.variables c.requires.tuple c.in_ok-root.root c.in_ok-root.ensures.ok

pub returns-clause-ok : goal.returns-clause-ok
returns-clause-ok c =
    instance_entered c.self.inside.graph c.instance.new.terms c.self.inside.formulas c.instance.new.self c.self.inside.asserted c.self.inside.levels.items c.self.invariant c.args.self.now c.self.view_is c.mark-mark.ensures.can_be.formulas.table c.args.forall c.args.tuple.now c.requires.variables c.requires.tuple c.in_ok-root.root c.in_ok-root.ensures.ok

pub returns-clause-root : goal.returns-clause-root
returns-clause-root c =
    instance_root c.self.inside.graph c.instance.new.terms c.self.inside.formulas c.instance.new.self c.self.inside.asserted c.self.inside.levels.items c.self.invariant c.args.self.now c.self.view_is c.mark-mark.ensures.can_be.formulas.table c.args.forall c.args.tuple.now c.requires.variables c.requires.tuple c.in_ok-root.root c.in_ok-root.ensures.ok

pub returns-clause-levels : goal.returns-clause-levels
returns-clause-levels c =
    instance_levels c.self.inside.graph c.instance.new.terms c.self.inside.formulas c.instance.new.self c.self.inside.asserted c.self.inside.levels.items c.self.invariant c.args.self.now c.self.view_is c.mark-mark.ensures.can_be.formulas.table c.args.forall c.args.tuple.now c.requires.variables c.requires.tuple c.in_ok-root.root c.in_ok-root.ensures.ok
