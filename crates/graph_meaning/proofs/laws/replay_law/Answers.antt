use Rattle.graph_meaning.proofs.ReplayLaws.{done-replay, replay-push}
use Rattle.graph_meaning.proofs.laws.replay_law.Goals as goal

pub returns-clause-count : goal.returns-clause-count
returns-clause-count c = done-replay

pub returns-clause-last : goal.returns-clause-last
returns-clause-last c = replay-push
