use Rattle.std.proofs.Common.{take}
use Rattle.match_found.specs.Stored.{HaveStored, stored_of}
use Rattle.match_found.proofs.listing.put_each.Given as goal

abbrev pub invariant-loop-i : goal.invariant-loop-i
invariant-loop-i g l = HaveStored (g.G.ClassGraph.standing l.graph) (stored_of (take l.i l.tuples)) l.lists.items
