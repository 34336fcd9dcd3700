use Rattle.search_watch.proofs.ServeLemmas.{serves}
use Rattle.search_watch.proofs.laws.covering_serves.Goals as goal

pub returns : goal.returns
returns c = record { serves = λ world new unions differs chains joins stand have covers tells names. serves world new unions differs chains joins stand have covers tells names }
