use Rattle.std.proofs.Common.{◌≡◌, List, subst, sym}
use Rattle.match_owed.specs.declared.event.Event.{Event}
use Rattle.match_owed.specs.OwedLog.{OwedLog}
use Rattle.match_owed.specs.Giving.{GivesAll}
use Rattle.match_owed.specs.OwedInside.{owed_of}
use Rattle.match_owed.proofs.GiveLemmas.{gives_one}
use Rattle.match_owed.proofs.owed.Owed.give.Goals as goal

pub returns-clause-ok : goal.returns-clause-ok
returns-clause-ok c =
    let old : OwedLog = owed_of c.self.inside in
    subst (λ (s : OwedLog). GivesAll (λ other. other ≡ c.args.claim) s (record old { log = c.give.new.self })) c.self.view_is
    (subst (λ (l : List Event). GivesAll (λ other. other ≡ c.args.claim) old (record old { log = l })) (sym c.in_ok-give.ensures.ok) (gives_one old c.args.claim c.self.invariant.taken))
