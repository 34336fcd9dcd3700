use Rattle.match_trees.proofs.LawLemmas.{growth_laws}
use Rattle.match_trees.proofs.laws.growth_law.Goals as goal

pub returns : goal.returns
returns g c = growth_laws g.row.L.Denot
