use Rattle.std.proofs.Common.{arith}
use Rattle.match_owed.proofs.DischargeLemmas.{takes_none, takes_next, takes_all}
use Rattle.match_owed.proofs.owed.discharge_claims.Goals as goal

pub loop-i-init : goal.loop-i-init
loop-i-init c = takes_none c.args.log.now c.args.mark c.args.claims.now

pub loop-i-preserved : goal.loop-i-preserved
loop-i-preserved c = takes_next c.args.mark c.args.claims.now c.loop-i.i c.at.result c.args.log.now c.loop-i.log c.discharge_claim.new.log c.at.ensures c.discharge_claim.ensures c.loop-i.invariant

pub returns : goal.returns
returns c = takes_all c.args.mark c.args.claims.now c.loop-i.i c.args.log.now c.loop-i.log (omega (arith, c.loop-i-test.false, c.len-i-end.ensures)) c.loop-i.invariant
