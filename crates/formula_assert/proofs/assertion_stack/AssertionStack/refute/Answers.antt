use Rattle.std.proofs.Common.{◌≡◌, ℕ, List, ◌++◌, subst}
use Rattle.std.specs.Prelude.{OnOk}
use Rattle.graph_meaning.specs.Standing.{terms_of, differs_of}
use Rattle.formula_assert.specs.Assertions.{Assertions}
use Rattle.formula_assert.proofs.EnteredLemmas.{refuted_grows, same_nodes, held_stack}
use Rattle.formula_assert.proofs.NewsLemmas.{refuted_terms, differs_grow}
use Rattle.formula_assert.proofs.assertion_stack.AssertionStack.refute.Goals as goal

pub invariant_of-self : goal.invariant_of-self
invariant_of-self c =
    held_stack c.self.inside.graph c.refute_node.new.graph c.self.inside.formulas c.self.inside.asserted c.self.inside.asserted c.self.inside.levels.items c.self.invariant
    (same_nodes c.self.inside.graph c.refute_node.new.graph c.self.inside.asserted
    (refuted_grows c.self.inside.graph c.refute_node.new.graph c.node.result.now c.refute_node.result c.refute_node.ensures.ok c.refute_node.ensures.err))

pub returns-clause-terms : goal.returns-clause-terms
returns-clause-terms c =
    subst (λ (before : Assertions). OnOk c.refute_node.result (terms_of c.refute_node.new.graph.standing ≡ terms_of before.graph.standing)) c.self.view_is
    (refuted_terms c.self.inside.graph c.refute_node.new.graph c.node.result.now c.refute_node.result c.refute_node.ensures.ok)

pub returns-clause-differs : goal.returns-clause-differs
returns-clause-differs c =
    subst (λ (before : Assertions). OnOk c.refute_node.result ((more : List (ℕ × ℕ)) × (differs_of c.refute_node.new.graph.standing ≡ differs_of before.graph.standing ++ more))) c.self.view_is
    (differs_grow c.self.inside.graph c.refute_node.new.graph c.refute_node.result
    (refuted_grows c.self.inside.graph c.refute_node.new.graph c.node.result.now c.refute_node.result c.refute_node.ensures.ok c.refute_node.ensures.err))
