use Rattle.ematch_cli.proofs.RefutedLaws.{unsat_right}
use Rattle.ematch_cli.proofs.laws.unsat_is_right.Goals as goal

pub returns : goal.returns
returns c = unsat_right c.run_law.ensures c.unsat_law.ensures
