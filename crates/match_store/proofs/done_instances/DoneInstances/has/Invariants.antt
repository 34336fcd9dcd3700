use Rattle.std.proofs.Common.{take}
use Rattle.match_store.specs.DoneInstances.{IsDone}
use Rattle.match_store.specs.Instance.{instance_of}
use Rattle.match_store.proofs.done_instances.DoneInstances.has.Given as goal

abbrev pub invariant-loop-instance : goal.invariant-loop-instance
invariant-loop-instance g l = IsDone (g.G.ClassGraph.standing l.graph) (take l.instance-index l.instance-items) (instance_of l.forall l.tuple) → ⊥
