use Rattle.std.proofs.Common.{take}
use Rattle.graph_meaning.specs.Standing.{merges_of}
use Rattle.graph_plain.specs.Labels.{AreMerged}
use Rattle.graph_plain.proofs.labels.find_merge.Given as goal

abbrev pub invariant-loop-done : goal.invariant-loop-done
invariant-loop-done l = AreMerged (merges_of (take l.done-index l.standing)) l.labels
