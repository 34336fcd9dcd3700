use Rattle.match_trees.proofs.LawLemmas.{path_laws}
use Rattle.match_trees.proofs.laws.path_law.Goals as goal

pub returns : goal.returns
returns g c = path_laws g.row.L.Denot
