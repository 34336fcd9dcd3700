use Rattle.formula_table.proofs.InstanceLemmas.{body_in}
use Rattle.formula_table.proofs.formula_table.FormulaTable.instance.Given as goal

abbrev pub ghost-enter_body : goal.ghost-enter_body
ghost-enter_body g a = body_in a.table.now a.forall
