use Rattle.search_laws.proofs.OpenLemmas.{opens}
use Rattle.search_laws.proofs.laws.open_law.Goals as goal

pub returns : goal.returns
returns c = opens
