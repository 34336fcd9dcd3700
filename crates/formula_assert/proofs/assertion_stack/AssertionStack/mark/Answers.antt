use Rattle.std.proofs.Common.{length, sym, ap, subst, ◌∙◌}
use Rattle.formula_assert.specs.Assertions.{Assertions}
use Rattle.formula_assert.specs.Mark.{CanBeMarked}
use Rattle.formula_assert.proofs.MarkLemmas.{stack_marked}
use Rattle.formula_assert.proofs.assertion_stack.AssertionStack.mark.Goals as goal

pub returns : goal.returns
returns c = record {
  version = sym (ap (λ (now : Assertions). now.graph.done) c.self.view_is) ∙ sym c.version.ensures;
  nodes = sym (ap (λ (now : Assertions). length now.formulas.nodes) c.self.view_is) ∙ sym c.len.ensures.value;
  foralls = sym (ap (λ (now : Assertions). length now.formulas.foralls) c.self.view_is) ∙ sym c.foralls.ensures;
  asserted = sym (ap (λ (now : Assertions). length now.asserted) c.self.view_is) ∙ sym c.len-2.ensures;
  can_be = subst CanBeMarked c.self.view_is (stack_marked c.self.inside.graph c.self.inside.formulas c.self.inside.asserted c.self.inside.levels.items c.self.invariant c.len.ensures.table);
}
