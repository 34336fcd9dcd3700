use Rattle.search_laws.proofs.WayOutLemmas.{way_out}
use Rattle.search_laws.proofs.laws.sat_law.Goals as goal

pub returns : goal.returns
returns c = way_out
