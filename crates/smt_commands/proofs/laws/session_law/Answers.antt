use Rattle.smt_commands.proofs.SessionLaw.{keeps_sound}
use Rattle.smt_commands.proofs.laws.session_law.Goals as goal

pub returns-clause-keeps : goal.returns-clause-keeps
returns-clause-keeps c = keeps_sound c.formula_law.ensures c.definition_law.ensures.makes c.definition_law.ensures.keeps
