use Rattle.std.proofs.Common.{◌≡◌, take, map}
use Rattle.graph_plain.specs.Labels.{label_of}
use Rattle.graph_plain.proofs.labels.same_labels.Given as goal

abbrev pub invariant-loop-i : goal.invariant-loop-i
invariant-loop-i l = map (label_of l.labels) (take l.i l.left) ≡ map (label_of l.labels) (take l.i l.right)
