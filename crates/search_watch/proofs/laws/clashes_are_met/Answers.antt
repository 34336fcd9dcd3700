use Rattle.search_watch.proofs.LawLemmas.{clash_met}
use Rattle.search_watch.proofs.laws.clashes_are_met.Goals as goal

pub returns : goal.returns
returns c = record { clashes = λ old new terms unions side differs joins clash. clash_met old new terms unions joins side differs clash }
