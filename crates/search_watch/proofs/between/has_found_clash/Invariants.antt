use Rattle.std.proofs.Common.{ℕ, ◌<◌}
use Rattle.graph_meaning.specs.Same.{Same}
use Rattle.search_watch.proofs.BetweenLemmas.{left_at, right_at}
use Rattle.search_watch.proofs.between.has_found_clash.Given as goal

abbrev pub invariant-loop-i : goal.invariant-loop-i
invariant-loop-i g l = (k : ℕ) → k < l.i → Same (g.G.ClassGraph.standing l.graph) (left_at l.differs l.found k) (right_at l.differs l.found k) → ⊥
