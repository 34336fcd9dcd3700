use Rattle.std.proofs.Common.{cond, length}
use Rattle.graph_meaning.specs.declared.op.Op.TheVariants.{Merge, Differ}
use Rattle.graph_meaning.specs.Standing.{terms_of}
use Rattle.formula_assert.proofs.NewsLemmas.{lists_same, live_news}
use Rattle.formula_assert.proofs.OperationLemmas.{equation_stands, truth_stands, applied_grows, equation_inside, triggers_valid}
use Rattle.formula_assert.proofs.assert_nodes.do_operations.Goals as goal

pub assert_equation-requires-clause-left : goal.assert_equation-requires-clause-left
assert_equation-requires-clause-left g c = (equation_stands (length (terms_of (g.G.AssertionGraph.state c.args.graph.now).standing)) c.args.formulas.now.nodes c.requires.stands.0 c.args.node.now c.requires.terms c.requires.stands.1 c.in-Equal.positive c.in-Equal.left c.in-Equal.right c.in-Equal.is).0

pub assert_equation-requires-clause-right : goal.assert_equation-requires-clause-right
assert_equation-requires-clause-right g c = (equation_stands (length (terms_of (g.G.AssertionGraph.state c.args.graph.now).standing)) c.args.formulas.now.nodes c.requires.stands.0 c.args.node.now c.requires.terms c.requires.stands.1 c.in-Equal.positive c.in-Equal.left c.in-Equal.right c.in-Equal.is).1

pub assert_truth-requires : goal.assert_truth-requires
assert_truth-requires g c = truth_stands (length (terms_of (g.G.AssertionGraph.state c.args.graph.now).standing)) c.args.formulas.now.nodes c.requires.stands.0 c.args.node.now c.requires.terms c.requires.stands.1 c.in-Atom.positive c.in-Atom.term c.in-Atom.is

pub make_live-requires : goal.make_live-requires
make_live-requires g c = triggers_valid c.args.formulas.now c.requires.table c.in-Forall.forall c.triggers_of.result.now c.triggers_of.ensures

pub returns-in-Equal-clause-grows : goal.returns-in-Equal-clause-grows
returns-in-Equal-clause-grows g c =
    let state = g.G.AssertionGraph.state in
    applied_grows (state c.args.graph.now) (state c.assert_equation.new.graph) (cond c.in-Equal.positive (Merge c.in-Equal.left c.in-Equal.right) (Differ c.in-Equal.left c.in-Equal.right)) c.assert_equation.result (equation_inside c.in-Equal.positive c.in-Equal.left c.in-Equal.right) c.assert_equation.ensures.ok c.assert_equation.ensures.err

pub returns-in-Atom-clause-grows : goal.returns-in-Atom-clause-grows
returns-in-Atom-clause-grows g c =
    let state = g.G.AssertionGraph.state in
    applied_grows (state c.args.graph.now) (state c.assert_truth.new.graph) (Merge c.in-Atom.term (cond c.in-Atom.positive 0 1)) c.assert_truth.result tt c.assert_truth.ensures.ok c.assert_truth.ensures.err

pub returns-in-Forall-clause-unions : goal.returns-in-Forall-clause-unions
returns-in-Forall-clause-unions g c =
    let state = g.G.AssertionGraph.state in
    live_news (state c.args.graph.now) (state c.make_live.new.graph) c.triggers_of.result.now c.args.unions.now.items c.make_live.result c.make_live.ensures.ok

pub returns-in-And-clause-unions : goal.returns-in-And-clause-unions
returns-in-And-clause-unions g c = lists_same (g.G.AssertionGraph.state c.args.graph.now).standing c.args.unions.now.items

pub returns-in-And-2-clause-unions : goal.returns-in-And-2-clause-unions
returns-in-And-2-clause-unions g c = lists_same (g.G.AssertionGraph.state c.args.graph.now).standing c.args.unions.now.items
