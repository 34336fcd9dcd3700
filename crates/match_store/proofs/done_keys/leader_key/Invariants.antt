use Rattle.std.proofs.Common.{take}
use Rattle.match_store.proofs.CandidateLemmas.{IsKeySoFar}
use Rattle.match_store.proofs.done_keys.leader_key.Given as goal

abbrev pub invariant-loop-term : goal.invariant-loop-term
invariant-loop-term g l = IsKeySoFar (g.G.ClassGraph.standing l.graph) l.instance.forall (take l.term-index l.term-items) l.key.items
