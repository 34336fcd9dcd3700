use Rattle.search_laws.proofs.RefuteLemmas.{refuted}
use Rattle.search_laws.proofs.laws.unsat_law.Goals as goal

pub returns : goal.returns
returns c = refuted c.entry_law.ensures.of_forall
