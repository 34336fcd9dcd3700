use Rattle.formula_assert.proofs.NewsLemmas.{lists_same}
use Rattle.formula_assert.proofs.assert_nodes.refute_node.Goals as goal

pub returns-in-And-clause-unions : goal.returns-in-And-clause-unions
returns-in-And-clause-unions g c = lists_same (g.G.AssertionGraph.state c.args.graph.now).standing c.args.unions.now.items

pub returns-in-And-2-clause-unions : goal.returns-in-And-2-clause-unions
returns-in-And-2-clause-unions g c = lists_same (g.G.AssertionGraph.state c.args.graph.now).standing c.args.unions.now.items

pub returns-in-And-3-clause-unions : goal.returns-in-And-3-clause-unions
returns-in-And-3-clause-unions g c = lists_same (g.G.AssertionGraph.state c.args.graph.now).standing c.args.unions.now.items
