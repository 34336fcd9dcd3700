use Rattle.match_trees.proofs.FrontLemmas.{share_fronts}
use Rattle.match_trees.proofs.laws.sharing_law.Goals as goal

pub returns : goal.returns
returns g c = share_fronts
