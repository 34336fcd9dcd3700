use Rattle.std.proofs.Common.{sym, subst}
use Rattle.formula_assert.specs.InLevel.{KeepsLevels}
use Rattle.formula_assert.specs.StackInside.{assertions_with}
use Rattle.formula_assert.proofs.StackLemmas.{cut_named, cut_nodes, cut_foralls}
use Rattle.formula_assert.proofs.MarkLemmas.{stack_back, view_back}
use Rattle.formula_assert.proofs.assertion_stack.AssertionStack.back_to.Goals as goal

pub cut-requires-clause-nodes : goal.cut-requires-clause-nodes
cut-requires-clause-nodes c =
    let before = c.requires.0 in
    let keeps : KeepsLevels before (assertions_with c.self.inside.graph c.self.inside.formulas c.self.inside.asserted c.self.inside.levels.items) = subst (KeepsLevels before) (sym c.self.view_is) c.requires.2 in
    cut_nodes before.formulas c.self.inside.formulas keeps.formulas_grow c.args.mark.nodes c.args.mark.foralls (sym c.requires.1.nodes) (sym c.requires.1.foralls)

pub cut-requires-clause-foralls : goal.cut-requires-clause-foralls
cut-requires-clause-foralls c =
    let before = c.requires.0 in
    let keeps : KeepsLevels before (assertions_with c.self.inside.graph c.self.inside.formulas c.self.inside.asserted c.self.inside.levels.items) = subst (KeepsLevels before) (sym c.self.view_is) c.requires.2 in
    cut_foralls before.formulas c.self.inside.formulas keeps.formulas_grow c.args.mark.nodes c.args.mark.foralls (sym c.requires.1.nodes) (sym c.requires.1.foralls)

pub cut-requires-clause-named : goal.cut-requires-clause-named
cut-requires-clause-named c =
    let before = c.requires.0 in
    let keeps : KeepsLevels before (assertions_with c.self.inside.graph c.self.inside.formulas c.self.inside.asserted c.self.inside.levels.items) = subst (KeepsLevels before) (sym c.self.view_is) c.requires.2 in
    cut_named before.formulas c.self.inside.formulas keeps.formulas_grow c.args.mark.nodes c.args.mark.foralls (sym c.requires.1.nodes) (sym c.requires.1.foralls) c.requires.1.can_be.formulas.table

pub invariant_of-self : goal.invariant_of-self
invariant_of-self c =
    let before = c.requires.0 in
    let mark = c.requires.1 in
    let keeps : KeepsLevels before (assertions_with c.self.inside.graph c.self.inside.formulas c.self.inside.asserted c.self.inside.levels.items) = subst (KeepsLevels before) (sym c.self.view_is) c.requires.2 in
    stack_back c.self.inside.graph c.take_back_to.new.graph c.self.inside.formulas c.cut.new.self c.self.inside.asserted c.keep_first.new.self c.self.inside.levels.items c.self.invariant before c.args.mark.nodes c.args.mark.foralls c.args.mark.asserted
    mark.can_be mark.nodes mark.foralls mark.asserted keeps
    (c.take_back_to.ensures before.graph mark.version keeps.holds_more.grows) c.cut.ensures c.keep_first.ensures

pub returns : goal.returns
returns c = λ before mark holds.
    let keeps : KeepsLevels before (assertions_with c.self.inside.graph c.self.inside.formulas c.self.inside.asserted c.self.inside.levels.items) = subst (KeepsLevels before) (sym c.self.view_is) holds in
    view_back c.self.inside.graph c.take_back_to.new.graph c.self.inside.formulas c.cut.new.self c.self.inside.asserted c.keep_first.new.self c.self.inside.levels.items c.self.invariant before c.args.mark.nodes c.args.mark.foralls c.args.mark.asserted
    mark.can_be mark.nodes mark.foralls mark.asserted keeps
    (c.take_back_to.ensures before.graph mark.version keeps.holds_more.grows) c.cut.ensures c.keep_first.ensures
