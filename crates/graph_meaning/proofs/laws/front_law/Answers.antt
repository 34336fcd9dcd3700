use Rattle.graph_meaning.proofs.FrontLemmas.{standing-first, serials-first, front-first}
use Rattle.graph_meaning.proofs.laws.front_law.Goals as goal

pub returns-clause-standing : goal.returns-clause-standing
returns-clause-standing c = standing-first

pub returns-clause-serials : goal.returns-clause-serials
returns-clause-serials c = serials-first

pub returns-clause-prefix : goal.returns-clause-prefix
returns-clause-prefix c = front-first
