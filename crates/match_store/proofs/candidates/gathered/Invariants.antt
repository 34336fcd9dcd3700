use Rattle.std.proofs.Common.{take}
use Rattle.graph_meaning.specs.Standing.{triggers_of}
use Rattle.match_store.specs.Candidates.{HaveMatches}
use Rattle.match_store.proofs.candidates.gathered.Given as goal

abbrev pub invariant-loop-n : goal.invariant-loop-n
invariant-loop-n g l = HaveMatches (g.G.ClassGraph.standing l.graph) (take l.n (triggers_of (g.G.ClassGraph.standing l.graph))) l.keys
