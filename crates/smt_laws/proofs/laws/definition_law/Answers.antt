use Rattle.smt_laws.proofs.Formulas.{makes_definitions, keeps_definitions}
use Rattle.smt_laws.proofs.laws.definition_law.Goals as goal

pub returns-clause-makes : goal.returns-clause-makes
returns-clause-makes c = makes_definitions

pub returns-clause-keeps : goal.returns-clause-keeps
returns-clause-keeps c = keeps_definitions
