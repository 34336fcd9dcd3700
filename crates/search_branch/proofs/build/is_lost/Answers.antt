use Rattle.search_branch.proofs.StartLemmas.{not_lost}
use Rattle.search_branch.proofs.build.is_lost.Goals as goal

pub returns-in-None : goal.returns-in-None
returns-in-None c = not_lost c.args.graph.now.standing c.in-None.ensures
