use Rattle.std.proofs.Common.{ap, ◌∙◌, sym, ℕ, cond, arith}
use Rattle.graph_meaning.specs.Standing.{live_trigger}
use Rattle.graph_plain.proofs.StandingLemmas.{length-take_more}
use Rattle.graph_plain.proofs.graph.PlainGraphClassGraph.triggers.Goals as goal
use Rattle.graph_plain.proofs.graph.PlainGraphClassGraph.triggers.Goals.{then-is_some, else-is_some}

pub overflow_add-count : goal.overflow_add-count
overflow_add-count c = omega (arith, c.self.invariant.kept.few, c.deref-done-items.ensures.len, c.self.inside.standing.ok.0)

pub loop-done-preserved : goal.loop-done-preserved
loop-done-preserved c =
    let more = length-take_more live_trigger c.deref-done-items.result.now c.loop-done.done-index c.done-item.result c.loop-done-test.true c.done-item.is c.live_trigger.result (λ b. b.now) c.live_trigger.ensures in
    elim c.if-is_some.branch [
      | then-is_some w ↦ let one = ap {B = ℕ} (λ b. cond b 1 0) (sym c.is_some.ensures ∙ w.if-is_some.true) in (omega (arith, more, one, c.loop-done.invariant.0), omega (arith, c.loop-done.invariant.1))
      | else-is_some w ↦ let one = ap {B = ℕ} (λ b. cond b 1 0) (sym c.is_some.ensures ∙ w.if-is_some.false) in (omega (arith, more, one, c.loop-done.invariant.0), omega (arith, c.loop-done.invariant.1))
    ]
