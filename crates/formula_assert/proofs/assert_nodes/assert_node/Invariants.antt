use Rattle.std.proofs.Common.{◌≡◌, ◌+◌, length}
use Rattle.graph_meaning.specs.Standing.{terms_of}
use Rattle.formula_assert.specs.Held.{held}
use Rattle.formula_assert.specs.News.{ListsMore}
use Rattle.formula_assert.proofs.WorkLemmas.{UnderWay, owed}
use Rattle.formula_assert.proofs.assert_nodes.assert_node.Given as goal

-- what is left on the list gives what to assert the root gives, and the unions that came were put
abbrev pub invariant-loop-n : goal.invariant-loop-n
invariant-loop-n g l = record {
  way : UnderWay l.formulas l.root (held (g.G.AssertionGraph.state l.fn.graph) l.fn.asserted) (held (g.G.AssertionGraph.state l.graph) l.asserted) l.work.items;
  keeps : g.G.AssertionGraph.kept l.fn.graph l.graph;
  unions : ListsMore (g.G.AssertionGraph.state l.fn.graph).standing (g.G.AssertionGraph.state l.graph).standing l.fn.unions.items l.unions.items;
  terms : terms_of (g.G.AssertionGraph.state l.graph).standing ≡ terms_of (g.G.AssertionGraph.state l.fn.graph).standing;
}

-- the list, and the nodes that are not asserted yet with their conjuncts
abbrev pub decreases-loop-n : goal.decreases-loop-n
decreases-loop-n g l = owed l.asserted 0 l.formulas.nodes + length l.work.items
