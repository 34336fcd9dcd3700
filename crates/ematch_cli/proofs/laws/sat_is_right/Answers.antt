use Rattle.ematch_cli.proofs.RefutedLaws.{sat_right}
use Rattle.ematch_cli.proofs.laws.sat_is_right.Goals as goal

pub returns : goal.returns
returns c = sat_right c.run_law.ensures c.sat_law.ensures
