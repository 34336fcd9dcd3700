use Rattle.match_owed.proofs.BatchLemmas.{AreFirstClaims}
use Rattle.match_owed.proofs.batching.claims_of.Given as goal

abbrev pub invariant-loop-i : goal.invariant-loop-i
invariant-loop-i l = AreFirstClaims l.forest l.root l.entries l.i l.claims
