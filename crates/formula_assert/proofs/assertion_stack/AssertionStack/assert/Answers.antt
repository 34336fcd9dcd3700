use Rattle.std.proofs.Common.{[], refl, sym, subst, rules}
use Rattle.formula_table.specs.declared.enter_fault.EnterFault.TheVariants.{Memory}
use Rattle.formula_table.proofs.BecomesLaws.{over_none}
use Rattle.formula_assert.specs.Assertions.{Assertions}
use Rattle.formula_assert.specs.AssertFormula.{AssertsFormula, StopsAssert}
use Rattle.formula_assert.specs.InLevel.{KeepsLevels}
use Rattle.formula_assert.specs.StackInside.{assertions_with}
use Rattle.formula_assert.proofs.AssertLemmas.{none_below, entered_root, entered_over, table_grew, asserted_stack, asserted_keeps, asserted_saved, undone_stack, undone_keeps, undone_stops}
use Rattle.formula_assert.proofs.StackLemmas.{refused_stack, refused_assert, refused_keeps, cut_named, cut_nodes, cut_foralls}
use Rattle.formula_assert.proofs.assertion_stack.AssertionStack.assert.Goals as goal

pub invariant_of-self : goal.invariant_of-self
invariant_of-self c =
    refused_stack c.self.inside.graph c.enter.new.terms c.self.inside.formulas c.enter.new.self c.self.inside.asserted c.self.inside.levels.items c.args.formula.now [] c.in_err-root.field-0.0 c.self.invariant c.in_err-root.ensures.err c.in_err-root.ensures.fault

pub returns-in_err-root-clause-fault : goal.returns-in_err-root-clause-fault
returns-in_err-root-clause-fault c =
    let stops : StopsAssert c.args.formula.now c.args.self.now (assertions_with c.enter.new.terms c.enter.new.self c.self.inside.asserted c.self.inside.levels.items) c.in_err-root.field-0.0 =
    subst (λ (before : Assertions). StopsAssert c.args.formula.now before (assertions_with c.enter.new.terms c.enter.new.self c.self.inside.asserted c.self.inside.levels.items) c.in_err-root.field-0.0) c.self.view_is
    (refused_assert c.self.inside.graph c.enter.new.terms c.self.inside.formulas c.enter.new.self c.self.inside.asserted c.self.inside.levels.items c.args.formula.now [] c.in_err-root.field-0.0 c.self.invariant c.in_err-root.ensures.err c.in_err-root.ensures.fault) in
    search rules

pub returns-in_err-root-clause-levels : goal.returns-in_err-root-clause-levels
returns-in_err-root-clause-levels c =
    subst (λ (before : Assertions). KeepsLevels before (assertions_with c.enter.new.terms c.enter.new.self c.self.inside.asserted c.self.inside.levels.items)) c.self.view_is
    (refused_keeps c.self.inside.graph c.enter.new.terms c.self.inside.formulas c.enter.new.self c.self.inside.asserted c.self.inside.levels.items c.args.formula.now [] c.in_err-root.field-0.0 c.self.invariant c.in_err-root.ensures.err c.in_err-root.ensures.fault)

pub assert_node-requires-clause-stands : goal.assert_node-requires-clause-stands
assert_node-requires-clause-stands c =
    entered_root c.args.formula.now [] (over_none c.args.formula.now c.root-formula.ensures.formula) c.self.inside.graph c.enter.new.terms (none_below c.self.inside.graph) c.self.inside.formulas c.enter.new.self c.self.inside.graph.limit c.in_ok-root.root c.in_ok-root.ensures.ok c.self.invariant.terms_stand

pub assert_node-requires-clause-terms : goal.assert_node-requires-clause-terms
assert_node-requires-clause-terms c =
    entered_over c.args.formula.now [] (over_none c.args.formula.now c.root-formula.ensures.formula) c.self.inside.graph c.enter.new.terms (none_below c.self.inside.graph) c.self.inside.formulas c.enter.new.self c.self.inside.graph.limit c.in_ok-root.root c.in_ok-root.ensures.ok c.self.invariant.terms_stand

pub take_back_to-requires : goal.take_back_to-requires
take_back_to-requires c = (c.enter.new.terms, sym c.version-version.ensures, c.in-Err.ensures.grows.grows)

pub cut-requires-clause-nodes : goal.cut-requires-clause-nodes
cut-requires-clause-nodes c =
    cut_nodes c.self.inside.formulas c.enter.new.self (table_grew c.args.formula.now [] (over_none c.args.formula.now c.root-formula.ensures.formula) c.self.inside.graph c.enter.new.terms (none_below c.self.inside.graph) c.self.inside.formulas c.enter.new.self c.self.inside.graph.limit c.in_ok-root.root c.in_ok-root.ensures.ok c.self.invariant.terms_stand) c.len-nodes.result c.foralls-foralls.result c.len-nodes.ensures.value c.foralls-foralls.ensures

pub cut-requires-clause-foralls : goal.cut-requires-clause-foralls
cut-requires-clause-foralls c =
    cut_foralls c.self.inside.formulas c.enter.new.self (table_grew c.args.formula.now [] (over_none c.args.formula.now c.root-formula.ensures.formula) c.self.inside.graph c.enter.new.terms (none_below c.self.inside.graph) c.self.inside.formulas c.enter.new.self c.self.inside.graph.limit c.in_ok-root.root c.in_ok-root.ensures.ok c.self.invariant.terms_stand) c.len-nodes.result c.foralls-foralls.result c.len-nodes.ensures.value c.foralls-foralls.ensures

pub cut-requires-clause-named : goal.cut-requires-clause-named
cut-requires-clause-named c =
    cut_named c.self.inside.formulas c.enter.new.self (table_grew c.args.formula.now [] (over_none c.args.formula.now c.root-formula.ensures.formula) c.self.inside.graph c.enter.new.terms (none_below c.self.inside.graph) c.self.inside.formulas c.enter.new.self c.self.inside.graph.limit c.in_ok-root.root c.in_ok-root.ensures.ok c.self.invariant.terms_stand) c.len-nodes.result c.foralls-foralls.result c.len-nodes.ensures.value c.foralls-foralls.ensures c.len-nodes.ensures.table

pub invariant_of-self-in-Err : goal.invariant_of-self-in-Err
invariant_of-self-in-Err c =
    undone_stack c.args.formula.now [] (over_none c.args.formula.now c.root-formula.ensures.formula) c.self.inside.graph c.enter.new.terms (none_below c.self.inside.graph) c.self.inside.formulas c.enter.new.self c.self.inside.graph.limit c.in_ok-root.root c.in_ok-root.ensures.ok c.self.invariant.terms_stand
    c.assert_node.new.graph c.self.inside.asserted c.assert_node.new.asserted c.self.inside.levels.items c.in-Err.ensures.grows c.self.invariant
    c.take_back_to.new.graph c.cut.new.self c.keep_first.new.self c.len-nodes.result c.foralls-foralls.result c.len-asserted.result c.len-nodes.ensures.value c.foralls-foralls.ensures c.len-asserted.ensures
    (c.take_back_to.ensures c.enter.new.terms (sym c.version-version.ensures) c.in-Err.ensures.grows.grows) c.cut.ensures c.keep_first.ensures

pub returns-clause-fault : goal.returns-clause-fault
returns-clause-fault c =
    subst (λ (before : Assertions). StopsAssert c.args.formula.now before (assertions_with c.take_back_to.new.graph c.cut.new.self c.keep_first.new.self c.self.inside.levels.items) Memory) c.self.view_is
    (undone_stops c.args.formula.now [] (over_none c.args.formula.now c.root-formula.ensures.formula) c.self.inside.graph c.enter.new.terms (none_below c.self.inside.graph) c.self.inside.formulas c.enter.new.self c.self.inside.graph.limit c.in_ok-root.root c.in_ok-root.ensures.ok c.self.invariant.terms_stand
    c.assert_node.new.graph c.self.inside.asserted c.assert_node.new.asserted c.self.inside.levels.items c.in-Err.ensures.grows c.self.invariant
    c.take_back_to.new.graph c.cut.new.self c.keep_first.new.self c.len-nodes.result c.foralls-foralls.result c.len-asserted.result c.len-nodes.ensures.value c.foralls-foralls.ensures c.len-asserted.ensures
    (c.take_back_to.ensures c.enter.new.terms (sym c.version-version.ensures) c.in-Err.ensures.grows.grows) c.cut.ensures c.keep_first.ensures refl)

pub returns-clause-levels : goal.returns-clause-levels
returns-clause-levels c =
    subst (λ (before : Assertions). KeepsLevels before (assertions_with c.take_back_to.new.graph c.cut.new.self c.keep_first.new.self c.self.inside.levels.items)) c.self.view_is
    (undone_keeps c.args.formula.now [] (over_none c.args.formula.now c.root-formula.ensures.formula) c.self.inside.graph c.enter.new.terms (none_below c.self.inside.graph) c.self.inside.formulas c.enter.new.self c.self.inside.graph.limit c.in_ok-root.root c.in_ok-root.ensures.ok c.self.invariant.terms_stand
    c.assert_node.new.graph c.self.inside.asserted c.assert_node.new.asserted c.self.inside.levels.items c.in-Err.ensures.grows c.self.invariant
    c.take_back_to.new.graph c.cut.new.self c.keep_first.new.self c.len-nodes.result c.foralls-foralls.result c.len-asserted.result c.len-nodes.ensures.value c.foralls-foralls.ensures c.len-asserted.ensures
    (c.take_back_to.ensures c.enter.new.terms (sym c.version-version.ensures) c.in-Err.ensures.grows.grows) c.cut.ensures c.keep_first.ensures)

pub invariant_of-self-in-Ok : goal.invariant_of-self-in-Ok
invariant_of-self-in-Ok c =
    asserted_stack c.args.formula.now [] (over_none c.args.formula.now c.root-formula.ensures.formula) c.self.inside.graph c.enter.new.terms (none_below c.self.inside.graph) c.self.inside.formulas c.enter.new.self c.self.inside.graph.limit c.in_ok-root.root c.in_ok-root.ensures.ok c.self.invariant.terms_stand
    c.assert_node.new.graph c.self.inside.asserted c.assert_node.new.asserted c.self.inside.levels.items c.in-Ok.ensures.grows c.self.invariant

pub returns-in-Ok-clause-ok : goal.returns-in-Ok-clause-ok
returns-in-Ok-clause-ok c =
    subst (λ (before : Assertions). AssertsFormula c.args.formula.now before (assertions_with c.assert_node.new.graph c.enter.new.self c.assert_node.new.asserted c.self.inside.levels.items)) c.self.view_is
    (record {
      entered = c.enter.new.terms;
      root = c.in_ok-root.root;
      enters = c.in_ok-root.ensures.ok;
      asserts = c.in-Ok.ensures.ok;
      saved_is = asserted_saved c.args.formula.now [] (over_none c.args.formula.now c.root-formula.ensures.formula) c.self.inside.graph c.enter.new.terms (none_below c.self.inside.graph) c.self.inside.formulas c.enter.new.self c.self.inside.graph.limit c.in_ok-root.root c.in_ok-root.ensures.ok c.self.invariant.terms_stand
          c.assert_node.new.graph c.self.inside.asserted c.assert_node.new.asserted c.self.inside.levels.items c.in-Ok.ensures.grows c.self.invariant;
    })

pub returns-in-Ok-clause-levels : goal.returns-in-Ok-clause-levels
returns-in-Ok-clause-levels c =
    subst (λ (before : Assertions). KeepsLevels before (assertions_with c.assert_node.new.graph c.enter.new.self c.assert_node.new.asserted c.self.inside.levels.items)) c.self.view_is
    (asserted_keeps c.args.formula.now [] (over_none c.args.formula.now c.root-formula.ensures.formula) c.self.inside.graph c.enter.new.terms (none_below c.self.inside.graph) c.self.inside.formulas c.enter.new.self c.self.inside.graph.limit c.in_ok-root.root c.in_ok-root.ensures.ok c.self.invariant.terms_stand
    c.assert_node.new.graph c.self.inside.asserted c.assert_node.new.asserted c.self.inside.levels.items c.in-Ok.ensures.grows c.self.invariant)
