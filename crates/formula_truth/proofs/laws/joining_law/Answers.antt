use Rattle.formula_truth.proofs.JoinLemmas.{are_joins}
use Rattle.formula_truth.proofs.laws.joining_law.Goals as goal

pub returns : goal.returns
returns c = are_joins
