use Rattle.formula_value.proofs.ValueLaws.{not_both, one_value}
use Rattle.formula_value.proofs.laws.one_value_law.Goals as goal

pub returns : goal.returns
returns c = record { not_both = not_both; one = one_value }
