use Rattle.match_paths.proofs.TurnLemmas.{TurnsOf}
use Rattle.match_paths.proofs.climb.climb.Given as goal

abbrev pub invariant-loop-turn : goal.invariant-loop-turn
invariant-loop-turn g l = TurnsOf (g.G.ClassGraph.standing l.graph) l.nodes l.entries l.class l.turn l.tasks l.claims
