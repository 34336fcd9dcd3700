use Rattle.search_watch.proofs.FoundLemmas.{equation_found, atom_found}
use Rattle.search_watch.proofs.laws.found_suffices.Goals as goal

pub returns : goal.returns
returns c = record {
  equations = λ world new unions differs literals found item s t v w joins looks tells of_s of_t p q. equation_found world new unions literals found joins looks differs item s t v w tells of_s of_t p q;
  atoms = λ world new unions literals found item t v w joins looks of_t of_0 of_1 p q. atom_found world new unions literals found joins looks item t v w of_t of_0 of_1 p q;
}
