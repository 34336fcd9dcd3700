use Rattle.std.proofs.Common.{◌<◌, ℕ, slice_index, slice_index_or}
use Rattle.graph_meaning.specs.Same.{Same}
use Rattle.search_watch.specs.Chains.{chain_at}
use Rattle.search_watch.specs.Evaluate.{AreJoined}
use Rattle.search_watch.proofs.evaluate.is_kept_apart.Given as goal

abbrev pub invariant-loop-i : goal.invariant-loop-i
invariant-loop-i g l = (k : ℕ) → k < l.i → AreJoined (Same (g.G.ClassGraph.standing l.graph)) (slice_index_or l.differs (slice_index (chain_at l.chains l.leader) k) (0, 0)) l.left l.right → ⊥
