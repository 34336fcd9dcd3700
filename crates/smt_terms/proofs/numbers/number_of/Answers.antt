use Rattle.std.proofs.Common.{subst, refl, ◌^◌, ◌≤◌, ℕ, get_or}
use Rattle.smt_terms.proofs.CheckLemmas.{too_large}
use Rattle.smt_terms.proofs.numbers.number_of.Goals as goal

pub returns-in-None : goal.returns-in-None
returns-in-None c = subst (λ (n : ℕ). 2 ^ 128 ≤ n) c.loop-digit.invariant (too_large c.args.digits.now c.loop-digit.number c.loop-digit.digit-index (get_or c.args.digits.now c.loop-digit.digit-index 0) c.loop-digit-test.true refl c.in-None.ensures)
