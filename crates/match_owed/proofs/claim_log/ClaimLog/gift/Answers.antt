use Rattle.std.proofs.Common.{◌∙◌, ap, sym, true≢false}
use Rattle.std.proofs.lemmas.Option.{none-some}
use Rattle.match_owed.specs.LogInside.{gives_at}
use Rattle.match_owed.proofs.LogLemmas.{gift_of, false_not}
use Rattle.match_owed.proofs.claim_log.ClaimLog.gift.Goals as goal

pub returns-then-gives-clause-some : goal.returns-then-gives-clause-some
returns-then-gives-clause-some c place is = gift_of c.args.self.now c.args.claim place (sym c.last_of-last.ensures ∙ is) (ap (gives_at c.args.self.now) (sym is) ∙ sym c.gives.ensures ∙ c.if-gives.true)

pub returns-then-gives-clause-none : goal.returns-then-gives-clause-none
returns-then-gives-clause-none c is owes = true≢false (sym (sym c.gives.ensures ∙ c.if-gives.true) ∙ ap (gives_at c.args.self.now) is)

pub returns-else-gives-clause-some : goal.returns-else-gives-clause-some
returns-else-gives-clause-some c place is = absurd (none-some place is)

pub returns-else-gives-clause-none : goal.returns-else-gives-clause-none
returns-else-gives-clause-none c is = false_not c.args.self.now c.args.claim (ap (gives_at c.args.self.now) (sym c.last_of-last.ensures) ∙ sym c.gives.ensures ∙ c.if-gives.false)
