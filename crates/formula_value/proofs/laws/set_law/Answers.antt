use Rattle.formula_value.proofs.HoldsLaws.{holds_or_fails}
use Rattle.formula_value.proofs.laws.set_law.Goals as goal

pub returns : goal.returns
returns c = record { is_set = λ known live nodes n set. holds_or_fails set }
