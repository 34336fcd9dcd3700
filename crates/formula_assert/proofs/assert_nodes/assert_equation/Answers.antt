use Rattle.formula_assert.proofs.NewsLemmas.{differ_news}
use Rattle.formula_assert.proofs.assert_nodes.assert_equation.Goals as goal

pub returns-else-positive-clause-unions : goal.returns-else-positive-clause-unions
returns-else-positive-clause-unions g c =
    let state = g.G.AssertionGraph.state in
    differ_news (state c.args.graph.now) (state c.differ.new.self) c.args.left c.args.right c.args.unions.now.items c.differ.result c.differ.ensures.ok
