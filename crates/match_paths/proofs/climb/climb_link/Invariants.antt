use Rattle.graph_meaning.specs.Questions.{IsParent}
use Rattle.match_paths.proofs.ClimbLemmas.{ClimbsFirst}
use Rattle.match_paths.proofs.climb.climb_link.Given as goal

abbrev pub invariant-loop-k : goal.invariant-loop-k
invariant-loop-k g l = ClimbsFirst (g.G.ClassGraph.standing l.graph) l.entries (IsParent (g.G.ClassGraph.standing l.graph) l.class l.step.symbol l.step.place) l.step.node l.k l.fn.tasks l.tasks l.fn.claims l.claims
