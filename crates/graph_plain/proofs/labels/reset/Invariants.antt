use Rattle.std.proofs.Common.{◌≡◌, ℕ, ◌<◌}
use Rattle.graph_plain.specs.Labels.{label_of}
use Rattle.graph_plain.proofs.labels.reset.Given as goal

abbrev pub invariant-loop-i : goal.invariant-loop-i
invariant-loop-i l = (term : ℕ) → term < l.i → label_of l.labels term ≡ term
