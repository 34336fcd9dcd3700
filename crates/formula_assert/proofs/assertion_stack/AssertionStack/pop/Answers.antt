use Rattle.std.proofs.Common.{ap, ◌∙◌}
use Rattle.formula_assert.specs.Assertions.{popped}
use Rattle.formula_assert.proofs.StackLemmas.{last_named, view_popped, stack_popped}
use Rattle.formula_assert.proofs.assertion_stack.AssertionStack.pop.Goals as goal

pub cut-requires-clause-named : goal.cut-requires-clause-named
cut-requires-clause-named c = last_named c.self.inside.graph c.self.inside.formulas c.self.inside.asserted c.self.inside.levels.items c.pop.new.self.items c.in-Some.level c.in-Some.ensures.items c.self.invariant

pub invariant_of-self : goal.invariant_of-self
invariant_of-self c =
    stack_popped c.self.inside.graph c.self.inside.formulas c.self.inside.asserted c.self.inside.levels.items c.pop.new.self.items c.in-Some.level c.in-Some.ensures.items c.self.invariant
    c.pop-in-Some.new.self c.cut.new.self c.keep_first.new.self c.pop-in-Some.ensures c.cut.ensures c.keep_first.ensures

pub returns : goal.returns
returns c =
    view_popped c.self.inside.graph c.self.inside.formulas c.self.inside.asserted c.self.inside.levels.items c.pop.new.self.items c.in-Some.level c.in-Some.ensures.items c.self.invariant
    c.pop-in-Some.new.self c.cut.new.self c.keep_first.new.self c.pop-in-Some.ensures c.cut.ensures c.keep_first.ensures
    ∙ ap popped c.self.view_is
