use Rattle.match_owed.specs.OwedLog.{TakesOff}
use Rattle.match_owed.proofs.DischargeLemmas.{IsBelow}
use Rattle.match_owed.proofs.owed.discharge_claims.Given as goal

abbrev pub invariant-loop-i : goal.invariant-loop-i
invariant-loop-i l = TakesOff l.mark (IsBelow l.claims l.i) l.fn.log l.log
