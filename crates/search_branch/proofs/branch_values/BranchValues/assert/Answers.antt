use Rattle.std.proofs.Common.{List, length, sym, ap, subst, ◌∙◌}
use Rattle.graph_meaning.specs.declared.union.Union.{Union}
use Rattle.graph_meaning.specs.State.{GraphState}
use Rattle.graph_meaning.specs.Standing.{differs_of}
use Rattle.formula_assert.specs.News.{ListsMore}
use Rattle.search_branch.proofs.ComeLemmas.{has_come, where_ok}
use Rattle.search_branch.proofs.branch_values.BranchValues.assert.Goals as goal

pub returns-clause-values : goal.returns-clause-values
returns-clause-values c =
    let lists = subst (λ (unions : List Union). ListsMore c.args.stack.now.graph.standing
    c.assert_entered.new.self.graph.standing c.new-unions.result.items unions) (sym c.deref.ensures.value)
    c.in_ok-assert_entered.ensures.unions in
    let come = has_come c.args.stack.now c.assert_entered.new.self c.in_ok-assert_entered.ensures.more
    c.new-unions.result.items c.deref.result.now (length c.asserted-asserted.result.now)
    (length c.differences-differs.result.now) c.new-unions.ensures.items lists c.in_ok-assert_entered.ensures.terms
    c.in_ok-assert_entered.ensures.differs (ap length c.asserted-asserted.ensures)
    (ap length c.differences-differs.ensures
    ∙ ap (λ (graph : GraphState). length (differs_of graph.standing)) c.graph.ensures) in
    where_ok c.follow.result (λ follows struck right. follows c.args.stack.now struck come right)
    c.follow.ensures.values
