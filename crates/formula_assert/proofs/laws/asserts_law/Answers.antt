use Rattle.formula_assert.proofs.AssertsLaws.{asserts_once}
use Rattle.formula_assert.proofs.laws.asserts_law.Goals as goal

pub returns : goal.returns
returns c = record { once = λ formulas n before one other first second. asserts_once formulas first second }
