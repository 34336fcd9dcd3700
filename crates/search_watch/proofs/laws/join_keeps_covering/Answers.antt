use Rattle.search_watch.proofs.CoverLemmas.{join_covers}
use Rattle.search_watch.proofs.laws.join_keeps_covering.Goals as goal

pub returns : goal.returns
returns c = record { joins = λ standing terms unions union ends chains moved kept covers leads stand sides has_moved has_kept. join_covers standing terms unions union ends chains moved kept covers leads stand sides has_moved has_kept }
