use Rattle.std.proofs.Common.{take, refl, sym, subst}
use Rattle.graph_terms.proofs.ListLaws.{All-slice_get}
use Rattle.graph_trigger.specs.Trigger.{IsValid}
use Rattle.formula_assert.specs.InLevel.{GrowsGraph}
use Rattle.formula_assert.proofs.OperationLemmas.{live_grows, live_next}
use Rattle.formula_assert.proofs.assert_nodes.make_live.Goals as goal

pub loop-i-init : goal.loop-i-init
loop-i-init g c = record { lives = refl; keeps = g.met.G.AssertionGraph.kept_none c.args.graph.now }

pub live-requires : goal.live-requires
live-requires g c = All-slice_get IsValid c.args.triggers.now c.loop-i.i c.get.result.now c.requires c.get.ensures

pub returns-in_err-live-clause-grows : goal.returns-in_err-live-clause-grows
returns-in_err-live-clause-grows g c =
    let state = g.G.AssertionGraph.state in
    subst (GrowsGraph (state c.args.graph.now)) (sym c.in_err-live.ensures.err) (live_grows (state c.args.graph.now) (state c.loop-i.graph) (take c.loop-i.i c.args.triggers.now) c.loop-i.invariant.lives)

pub returns-in_err-live-clause-keeps : goal.returns-in_err-live-clause-keeps
returns-in_err-live-clause-keeps g c = g.met.G.AssertionGraph.kept_both c.args.graph.now c.loop-i.graph c.live.new.self c.loop-i.invariant.keeps c.live.ensures.keeps

pub loop-i-preserved : goal.loop-i-preserved
loop-i-preserved g c =
    let state = g.G.AssertionGraph.state in
    record {
      lives = live_next (state c.args.graph.now) (state c.loop-i.graph) (state c.live.new.self) c.args.triggers.now c.loop-i.i c.get.result.now c.loop-i.invariant.lives c.get.ensures c.in_ok-live.ensures.ok;
      keeps = g.met.G.AssertionGraph.kept_both c.args.graph.now c.loop-i.graph c.live.new.self c.loop-i.invariant.keeps c.live.ensures.keeps;
    }

pub returns-clause-grows : goal.returns-clause-grows
returns-clause-grows g c =
    let state = g.G.AssertionGraph.state in
    live_grows (state c.args.graph.now) (state c.loop-i.graph) (take c.loop-i.i c.args.triggers.now) c.loop-i.invariant.lives
