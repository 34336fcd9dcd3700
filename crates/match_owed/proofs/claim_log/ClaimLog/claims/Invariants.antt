use Rattle.match_owed.proofs.LogLemmas.{FirstOwed}
use Rattle.match_owed.proofs.claim_log.ClaimLog.claims.Given as goal

abbrev pub invariant-loop-place : goal.invariant-loop-place
invariant-loop-place l = FirstOwed l.self l.place l.claims.items
