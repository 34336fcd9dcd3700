use Rattle.std.proofs.Common.{◌≡◌, ℕ, List, ◌++◌, subst}
use Rattle.std.specs.Prelude.{OnOk}
use Rattle.graph_meaning.specs.Standing.{terms_of, differs_of}
use Rattle.formula_assert.specs.Assertions.{Assertions}
use Rattle.formula_assert.specs.Held.{held}
use Rattle.formula_assert.specs.InLevel.{HoldsMoreOver}
use Rattle.formula_assert.specs.StackInside.{assertions_with}
use Rattle.formula_assert.proofs.EnteredLemmas.{held_stack, held_over}
use Rattle.formula_assert.proofs.NewsLemmas.{asserted_terms, differs_grow}
use Rattle.formula_assert.proofs.assertion_stack.AssertionStack.assert_entered.Goals as goal

pub invariant_of-self : goal.invariant_of-self
invariant_of-self c = held_stack c.self.inside.graph c.assert_node.new.graph c.self.inside.formulas c.self.inside.asserted c.assert_node.new.asserted c.self.inside.levels.items c.self.invariant c.assert_node.ensures.grows

pub returns-clause-more : goal.returns-clause-more
returns-clause-more c =
    subst (λ (before : Assertions). HoldsMoreOver before (assertions_with c.assert_node.new.graph c.self.inside.formulas c.assert_node.new.asserted c.self.inside.levels.items)) c.self.view_is
    (held_over c.self.inside.graph c.assert_node.new.graph c.self.inside.formulas c.self.inside.asserted c.assert_node.new.asserted c.self.inside.levels.items c.self.invariant c.assert_node.ensures.grows)

pub returns-clause-terms : goal.returns-clause-terms
returns-clause-terms c =
    subst (λ (before : Assertions). OnOk c.assert_node.result (terms_of c.assert_node.new.graph.standing ≡ terms_of before.graph.standing)) c.self.view_is
    (asserted_terms c.self.inside.formulas c.args.n (held c.self.inside.graph c.self.inside.asserted) (held c.assert_node.new.graph c.assert_node.new.asserted) c.assert_node.result c.assert_node.ensures.ok)

pub returns-clause-differs : goal.returns-clause-differs
returns-clause-differs c =
    subst (λ (before : Assertions). OnOk c.assert_node.result ((more : List (ℕ × ℕ)) × (differs_of c.assert_node.new.graph.standing ≡ differs_of before.graph.standing ++ more))) c.self.view_is
    (differs_grow c.self.inside.graph c.assert_node.new.graph c.assert_node.result c.assert_node.ensures.grows.grows)
