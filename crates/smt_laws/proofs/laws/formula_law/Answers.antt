use Rattle.smt_laws.proofs.Formulas.{makes_formulas}
use Rattle.smt_laws.proofs.laws.formula_law.Goals as goal

pub returns : goal.returns
returns c = makes_formulas
