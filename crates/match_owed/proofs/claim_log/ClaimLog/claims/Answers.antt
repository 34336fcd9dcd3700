use Rattle.std.proofs.Common.{arith}
use Rattle.match_owed.proofs.LogLemmas.{first_all, first_next}
use Rattle.match_owed.proofs.claim_log.ClaimLog.claims.Goals as goal

pub loop-place-preserved : goal.loop-place-preserved
loop-place-preserved c = first_next c.args.self.now c.loop-place.place c.loop-place.claims.items c.put_owed.new.claims.items c.in_ok-put_owed.ensures c.loop-place.invariant

pub returns : goal.returns
returns c = first_all c.args.self.now c.loop-place.place c.loop-place.claims.items (omega (arith, c.loop-place-test.false, c.len-place-end.ensures)) c.loop-place.invariant
