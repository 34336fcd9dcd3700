use Rattle.std.proofs.Common.{sum}
use Rattle.graph_meaning.specs.Standing.{merges_of}
use Rattle.graph_plain.specs.Labels.{AreSound}
use Rattle.graph_plain.proofs.labels.close.Given as goal

abbrev pub invariant-loop-left : goal.invariant-loop-left
invariant-loop-left l = AreSound l.table.rows (merges_of l.standing) l.labels

abbrev pub decreases-loop-left : goal.decreases-loop-left
decreases-loop-left l = sum l.labels
