use Rattle.std.proofs.Common.{take}
use Rattle.match_store.specs.DoneInstances.{AreSameEach}
use Rattle.match_store.proofs.done_instances.are_same.Given as goal

abbrev pub invariant-loop-i : goal.invariant-loop-i
invariant-loop-i g l = AreSameEach (g.G.ClassGraph.standing l.graph) (take l.i l.left) (take l.i l.right)
