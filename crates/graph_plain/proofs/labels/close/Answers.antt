use Rattle.std.proofs.Common.{◌<◌, sum, sym, subst}
use Rattle.graph_meaning.specs.Standing.{merges_of}
use Rattle.graph_plain.specs.Labels.{AreSound}
use Rattle.graph_plain.proofs.SameLemmas.{AreSound-joined, sum-joined}
use Rattle.graph_plain.proofs.labels.close.Goals as goal

pub loop-left-smaller : goal.loop-left-smaller
loop-left-smaller c = subst (λ labels. sum labels < sum c.loop-left.labels) (sym c.join.ensures) (sum-joined c.loop-left.labels c.loop-left.invariant c.in-Some.left c.in-Some.right c.in-Some.ensures.found)

pub loop-left-preserved : goal.loop-left-preserved
loop-left-preserved c = subst (AreSound c.args.table.now.rows (merges_of c.args.standing.now)) (sym c.join.ensures) (AreSound-joined c.loop-left.labels c.loop-left.invariant c.in-Some.left c.in-Some.right c.in-Some.ensures.found)
