use Rattle.formula_value.proofs.HoldsLaws.{holds_by, fails_by}
use Rattle.formula_value.proofs.laws.stays_law.Goals as goal

pub returns : goal.returns
returns c = record {
  yes = λ old new live more nodes n stays given. holds_by stays.yes given;
  no = λ old new live more nodes n stays denied. fails_by stays.no denied;
}
