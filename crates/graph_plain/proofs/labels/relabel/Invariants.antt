use Rattle.std.proofs.Common.{◌≡◌, ◌++◌, take, drop}
use Rattle.graph_plain.specs.Labels.{relabelled}
use Rattle.graph_plain.proofs.labels.relabel.Given as goal

abbrev pub invariant-loop-label : goal.invariant-loop-label
invariant-loop-label l = l.labels ≡ relabelled l.gone l.kept (take l.label-index l.initial.labels) ++ drop l.label-index l.initial.labels
