use Rattle.std.proofs.Common.{arith}
use Rattle.match_owed.specs.Due.{IsDueStart, IsDueTrigger}
use Rattle.match_owed.proofs.GiveLemmas.{below_next, below_none, below_some}
use Rattle.match_owed.proofs.DueLemmas.{all_starts}
use Rattle.match_owed.proofs.owed.Owed.on_live.Goals as goal

pub loop-start-init : goal.loop-start-init
loop-start-init g c = below_none (IsDueStart (g.G.ClassGraph.standing c.args.graph.now) c.args.trigger) c.args.self.now

pub loop-start-preserved : goal.loop-start-preserved
loop-start-preserved g c = below_next (IsDueStart (g.G.ClassGraph.standing c.args.graph.now) c.args.trigger) c.loop-start.start c.in_ok-give_start.ensures.ok c.loop-start.invariant

pub returns-in_err-give_start-clause-some : goal.returns-in_err-give_start-clause-some
returns-in_err-give_start-clause-some g c = below_some (IsDueStart (g.G.ClassGraph.standing c.args.graph.now) c.args.trigger) (IsDueTrigger (g.G.ClassGraph.standing c.args.graph.now) c.args.trigger) c.loop-start.start (λ j claim le due. due.1) c.in_err-give_start.ensures.some c.loop-start.invariant

pub returns-clause-ok : goal.returns-clause-ok
returns-clause-ok g c = all_starts (g.G.ClassGraph.standing c.args.graph.now) c.args.trigger c.trigger.result.now c.trigger.ensures.trigger c.loop-start.start (omega (arith, c.loop-start-test.false, c.len-start-end.ensures)) c.loop-start.invariant

pub returns-clause-some : goal.returns-clause-some
returns-clause-some g c = (all_starts (g.G.ClassGraph.standing c.args.graph.now) c.args.trigger c.trigger.result.now c.trigger.ensures.trigger c.loop-start.start (omega (arith, c.loop-start-test.false, c.len-start-end.ensures)) c.loop-start.invariant).some
