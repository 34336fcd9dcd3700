use Rattle.match_paths.proofs.TurnLemmas.{FirstTo}
use Rattle.match_paths.proofs.climb.first_tasks.Given as goal

abbrev pub invariant-loop-root : goal.invariant-loop-root
invariant-loop-root g l = FirstTo (g.G.ClassGraph.standing l.graph) l.nodes l.class l.root-items l.root-index l.tasks
