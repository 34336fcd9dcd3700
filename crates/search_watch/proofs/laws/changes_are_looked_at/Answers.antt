use Rattle.search_watch.proofs.LawLemmas.{equation_changes, atom_changes}
use Rattle.search_watch.proofs.laws.changes_are_looked_at.Goals as goal

pub returns : goal.returns
returns c = record {
  equations = λ old new terms unions side differs s t v w joins p q. equation_changes old new terms unions joins side differs s t v w p q;
  atoms = λ old new terms unions side t v w joins p q. atom_changes old new terms unions joins side t v w p q;
}
