use Rattle.match_paths.specs.Climbing.{ClimbsAll}
use Rattle.match_paths.proofs.TurnLemmas.{ByFirst}
use Rattle.match_paths.proofs.climb.climb_task.Given as goal

abbrev pub invariant-loop-node : goal.invariant-loop-node
invariant-loop-node g l = ClimbsAll (g.G.ClassGraph.standing l.graph) l.entries (ByFirst (g.G.ClassGraph.standing l.graph) l.nodes l.task.class l.node-items l.node-index) l.fn.tasks l.tasks l.fn.claims l.claims
