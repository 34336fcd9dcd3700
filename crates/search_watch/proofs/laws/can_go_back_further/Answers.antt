use Rattle.search_watch.proofs.NotedLemmas.{back_none, back_trans}
use Rattle.search_watch.proofs.laws.can_go_back_further.Goals as goal

pub returns : goal.returns
returns c = record { itself = back_none; further = back_trans }
