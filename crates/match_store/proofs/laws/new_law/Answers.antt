use Rattle.match_store.proofs.NewLemmas.{one_new}
use Rattle.match_store.proofs.laws.new_law.Goals as goal

pub returns : goal.returns
returns c = one_new
