use Rattle.search_watch.proofs.ChainLemmas.{join_undone}
use Rattle.search_watch.proofs.laws.join_is_undone.Goals as goal

pub returns : goal.returns
returns c = record { undone = λ chains moved kept has. join_undone chains moved kept has.slot_stands }
