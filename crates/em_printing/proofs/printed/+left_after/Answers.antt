use Rattle.std.proofs.Common.{◌-◌, arith}
use Rattle.graph_meaning.specs.Standing.{terms_of}
use Rattle.em_printing.proofs.TreeSizes.{not_none, counted_none, counted_more, too_many, all_counted}
use Rattle.em_printing.proofs.printed.+left_after.Goals as goal

pub returns-then-most-eq0 : goal.returns-then-most-eq0
returns-then-most-eq0 g t c = not_none (terms_of (g.G.ClassGraph.standing c.args.graph.now)) c.args.term c.args.most c.if-most-eq0.true

pub loop-i-init : goal.loop-i-init
loop-i-init g t c = (omega arith, counted_none (terms_of (g.G.ClassGraph.standing c.args.graph.now)) c.row.result.now.args _ (omega arith))

pub returns-in-None : goal.returns-in-None
returns-in-None g t c =
    too_many (terms_of (g.G.ClassGraph.standing c.args.graph.now)) c.args.term c.row.result.now c.loop-i.i c.get.result c.loop-i.left c.args.most c.row.ensures c.loop-i.invariant.1 c.get.ensures.value c.in-None.ensures c.loop-i.invariant.0

pub loop-i-preserved : goal.loop-i-preserved
loop-i-preserved g t c = (
  omega (arith, c.in-Some.ensures.1, c.loop-i.invariant.0),
  counted_more (terms_of (g.G.ClassGraph.standing c.args.graph.now)) c.row.result.now.args c.loop-i.i c.get.result (c.args.most - 1 - c.loop-i.left) (c.loop-i.left - c.in-Some.less) _
      c.get.ensures.value c.in-Some.ensures.0 (omega (arith, c.in-Some.ensures.1, c.loop-i.invariant.0)) c.loop-i.invariant.1,
)

pub returns : goal.returns
returns g t c = (
  all_counted (terms_of (g.G.ClassGraph.standing c.args.graph.now)) c.args.term c.row.result.now c.loop-i.i c.loop-i.left c.args.most c.row.ensures c.loop-i.invariant.1
      (omega (arith, c.len-i-end.ensures, c.loop-i-test.false)) c.loop-i.invariant.0,
  omega (arith, c.loop-i.invariant.0),
)
