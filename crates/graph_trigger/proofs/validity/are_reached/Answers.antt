use Rattle.std.proofs.Common.{below_more, refl, arith}
use Rattle.graph_trigger.specs.Validity.{IsReached}
use Rattle.graph_trigger.proofs.ValidLemmas.{refused}
use Rattle.graph_trigger.proofs.validity.are_reached.Goals as goal

pub returns-then-not-is_reached : goal.returns-then-not-is_reached
returns-then-not-is_reached c = refused c.is_reached.result c.is_reached.ensures c.if-not-is_reached.true (λ all. all c.loop-row.row (omega arith))

pub loop-row-preserved : goal.loop-row-preserved
loop-row-preserved c = below_more (IsReached c.args.rows.now c.args.roots.now) c.loop-row.row c.loop-row.invariant (c.is_reached.ensures.0 c.if-not-is_reached.false)

pub returns : goal.returns
returns c = (λ _ row below. c.loop-row.invariant row (omega arith), λ _. refl)
