use Rattle.std.proofs.Common.{◌≡◌, List, refl, subst, sym, arith}
use Rattle.match_owed.specs.OwedLog.{TakesOff}
use Rattle.match_owed.proofs.LogLemmas.{gift_owes}
use Rattle.match_owed.proofs.DischargeLemmas.{takes_one}
use Rattle.match_owed.proofs.owed.discharge_claim.Goals as goal

pub discharge-requires : goal.discharge-requires
discharge-requires c = gift_owes c.args.log.now c.args.claim c.in-Some.place (c.in-Some.ensures.some c.in-Some.place refl)

pub returns-then-place-mark : goal.returns-then-place-mark
returns-then-place-mark c = subst (TakesOff c.args.mark (λ other. other ≡ c.args.claim) c.args.log.now) (sym c.discharge.ensures)
    (takes_one c.args.log.now c.args.claim c.args.mark c.in-Some.place (c.in-Some.ensures.some c.in-Some.place refl) (omega (arith, c.if-place-mark.true)))
