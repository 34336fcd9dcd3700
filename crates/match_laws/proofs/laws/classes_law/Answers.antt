use Rattle.match_laws.proofs.DecideLaws.{decide_same, leader_of}
use Rattle.match_laws.proofs.laws.classes_law.Goals as goal

pub returns-clause-decided : goal.returns-clause-decided
returns-clause-decided c standing s t lawful = decide_same lawful.whole.table lawful.whole.ends s t

pub returns-clause-leader : goal.returns-clause-leader
returns-clause-leader c standing term lawful is_term =
    let found = leader_of lawful.whole.table lawful.whole.ends term is_term in
    (found.0, record { same = found.1; least = found.2 })
