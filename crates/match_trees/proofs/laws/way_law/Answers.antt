use Rattle.match_trees.proofs.LawLemmas.{way_laws}
use Rattle.match_trees.proofs.laws.way_law.Goals as goal

pub returns : goal.returns
returns g c = way_laws g.row.L.Denot
