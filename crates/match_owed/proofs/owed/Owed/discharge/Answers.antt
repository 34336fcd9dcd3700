use Rattle.std.proofs.Common.{◌≡◌, [], ℕ, List, Option, Contains, IfSome, get_or, subst, sym}
use Rattle.graph_meaning.specs.declared.claim.Claim.{Claim}
use Rattle.match_owed.specs.declared.event.Event.{Event}
use Rattle.match_owed.specs.OwedLog.{OwedLog, TakesOff}
use Rattle.match_owed.proofs.owed.Owed.discharge.Goals as goal

pub returns-in-Some-clause-log : goal.returns-in-Some-clause-log
returns-in-Some-clause-log c =
    let new : List Event = c.discharge_list.new.log in
    subst (λ (s : OwedLog). IfSome s.batch (λ mark. TakesOff mark (λ claim. Contains (get_or s.items c.args.number []) claim) s.log new)) c.self.view_is
    (subst (λ (o : Option ℕ). IfSome o (λ mark. TakesOff mark (λ claim. Contains (get_or c.self.inside.items.items c.args.number []) claim) c.self.inside.log new)) (sym c.in-Some.is)
    (subst (λ (xs : List (List Claim)). TakesOff c.in-Some.mark (λ claim. Contains (get_or xs c.args.number []) claim) c.self.inside.log new) c.deref.ensures.value c.discharge_list.ensures))
