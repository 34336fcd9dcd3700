use Rattle.std.proofs.Common.{take}
use Rattle.match_store.specs.Candidates.{AreDoneKeys}
use Rattle.match_store.proofs.done_keys.done_keys.Given as goal

abbrev pub invariant-loop-k : goal.invariant-loop-k
invariant-loop-k g l = AreDoneKeys (g.G.ClassGraph.standing l.graph) (take l.k l.done) l.keys
