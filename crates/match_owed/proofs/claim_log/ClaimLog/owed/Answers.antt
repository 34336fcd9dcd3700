use Rattle.std.proofs.Common.{List, subst, sym}
use Rattle.match_owed.specs.declared.event.Event.{Event}
use Rattle.match_owed.specs.OwedLog.{CountsOwed}
use Rattle.match_owed.specs.LogInside.{log_of, owed_claims}
use Rattle.match_owed.proofs.LogLemmas.{are_owed}
use Rattle.match_owed.proofs.claim_log.ClaimLog.owed.Goals as goal

pub returns : goal.returns
returns c = subst (λ (l : List Event). CountsOwed l c.self.inside.owed) c.self.view_is (owed_claims (log_of c.self.inside.notes.items), are_owed (log_of c.self.inside.notes.items), sym c.self.invariant.count)
