use Rattle.formula_table.proofs.BecomesLaws.{over_none}
use Rattle.formula_table.proofs.LawLemmas.{entry_stands, instance_stands}
use Rattle.formula_table.proofs.laws.entry_law.Goals as goal

pub returns-clause-closed : goal.returns-clause-closed
returns-clause-closed c = over_none

pub returns-clause-entered : goal.returns-clause-entered
returns-clause-entered c = entry_stands

pub returns-clause-of_forall : goal.returns-clause-of_forall
returns-clause-of_forall c = instance_stands
