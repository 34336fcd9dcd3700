use Rattle.std.proofs.Common.{◌≡◌, take, map}
use Rattle.graph_meaning.specs.declared.op.Op.TheVariants.{Live}
use Rattle.graph_meaning.specs.State.{replay}
use Rattle.formula_assert.proofs.assert_nodes.make_live.Given as goal

-- the first triggers are live
abbrev pub invariant-loop-i : goal.invariant-loop-i
invariant-loop-i g l = record {
  lives : g.G.AssertionGraph.state l.graph ≡ replay (g.G.AssertionGraph.state l.fn.graph) (map Live (take l.i l.triggers));
  keeps : g.G.AssertionGraph.kept l.fn.graph l.graph;
}
