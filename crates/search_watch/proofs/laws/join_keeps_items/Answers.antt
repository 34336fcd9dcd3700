use Rattle.search_watch.proofs.CoverLemmas.{below_join}
use Rattle.search_watch.proofs.laws.join_keeps_items.Goals as goal

pub returns : goal.returns
returns c = record { below = λ chains moved kept count has items. below_join chains moved kept count has.slot_stands items }
