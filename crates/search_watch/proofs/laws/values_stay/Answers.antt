use Rattle.std.proofs.Common.{true, Bool, ℕ}
use Rattle.search_watch.proofs.LawLemmas.{equation_stays, atom_stays}
use Rattle.search_watch.proofs.laws.values_stay.Goals as goal

any_side : ℕ → Bool
any_side k = true

pub returns : goal.returns
returns c = record {
  equations = λ old new terms unions differs more s t v w joins quiet p q. equation_stays old new terms unions joins any_side differs more s t v w quiet p q;
  atoms = λ old new terms unions t v w joins quiet p q. atom_stays old new terms unions joins any_side t v w quiet p q;
}
