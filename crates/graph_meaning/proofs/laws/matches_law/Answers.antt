use Rattle.graph_meaning.proofs.OneListLaws.{one_matches, one_item_matches}
use Rattle.graph_meaning.proofs.laws.matches_law.Goals as goal

pub returns-clause-trigger : goal.returns-clause-trigger
returns-clause-trigger c = one_matches

pub returns-clause-item : goal.returns-clause-item
returns-clause-item c = one_item_matches
