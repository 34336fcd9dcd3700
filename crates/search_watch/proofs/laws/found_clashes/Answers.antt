use Rattle.search_watch.proofs.FoundLemmas.{clash_found}
use Rattle.search_watch.proofs.laws.found_clashes.Goals as goal

pub returns : goal.returns
returns c = record { clashes = λ world new unions differs literals found joins looks tells clash. clash_found world new unions literals found joins looks differs tells clash }
