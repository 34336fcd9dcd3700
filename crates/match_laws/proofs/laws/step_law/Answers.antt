use Rattle.match_laws.proofs.StepLaws.{step_law}
use Rattle.match_laws.proofs.laws.step_law.Goals as goal

pub returns : goal.returns
returns c = step_law
