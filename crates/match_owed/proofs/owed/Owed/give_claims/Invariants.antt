use Rattle.match_owed.specs.Giving.{GivesAll}
use Rattle.match_owed.proofs.GiveLemmas.{AtPlace, Below}
use Rattle.match_owed.proofs.owed.Owed.give_claims.Given as goal

abbrev pub invariant-loop-i : goal.invariant-loop-i
invariant-loop-i l = GivesAll (Below (AtPlace l.claims) l.i) l.fn.self l.self
