use Rattle.match_owed.specs.Giving.{GivesAll}
use Rattle.match_owed.proofs.GiveLemmas.{Below}
use Rattle.match_owed.proofs.DueLemmas.{AtEntry}
use Rattle.match_owed.proofs.owed.Owed.give_entries.Given as goal

abbrev pub invariant-loop-i : goal.invariant-loop-i
invariant-loop-i l = GivesAll (Below (AtEntry l.starts l.numbers l.term) l.i) l.fn.self l.self
