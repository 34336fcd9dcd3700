use Rattle.std.proofs.Common.{◌≡◌, ◌≤◌, length, take}
use Rattle.graph_meaning.specs.Standing.{triggers_of}
use Rattle.graph_plain.proofs.graph.PlainGraphClassGraph.triggers.Given as goal

abbrev pub invariant-loop-done : goal.invariant-loop-done
invariant-loop-done l = (l.count ≡ length (triggers_of (take l.done-index l.done-items))) × (l.count ≤ l.done-index)
