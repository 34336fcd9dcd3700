use Rattle.match_trees.proofs.EntryLemmas.{entry_laws}
use Rattle.match_trees.proofs.laws.entry_law.Goals as goal

pub returns : goal.returns
returns c = entry_laws
