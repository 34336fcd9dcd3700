use Rattle.smt_laws.proofs.Triggers.{makes_triggers}
use Rattle.smt_laws.proofs.laws.trigger_law.Goals as goal

pub returns : goal.returns
returns c = makes_triggers
