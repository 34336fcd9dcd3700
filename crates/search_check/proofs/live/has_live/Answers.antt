use Rattle.std.proofs.lemmas.Bool.{iff_false}
use Rattle.search_check.proofs.LiveLemmas.{live_found, none_yet}
use Rattle.search_check.proofs.live.has_live.Goals as goal

pub returns-then-is_forall-clause-some : goal.returns-then-is_forall-clause-some
returns-then-is_forall-clause-some c found = live_found c.args.stack.now.formulas c.formulas.result.now
    c.args.stack.now.asserted c.asserted-n-items.result.now c.loop-n.n-index c.node.result.now c.formulas.ensures
    c.asserted-n-items.ensures c.loop-n-test.true c.node.ensures (c.is_forall.ensures.0 c.if-is_forall.true)

pub loop-n-preserved : goal.loop-n-preserved
loop-n-preserved c = none_yet c.args.stack.now.formulas c.formulas.result.now
    c.args.stack.now.asserted c.asserted-n-items.result.now c.loop-n.n-index c.node.result.now c.formulas.ensures
    c.asserted-n-items.ensures c.loop-n-test.true c.node.ensures (iff_false c.is_forall.ensures c.if-is_forall.false)
    c.loop-n.invariant
