use Rattle.std.proofs.Common.{sym, subst}
use Rattle.formula_table.specs.EntryInside.{ForallNumbersStand}
use Rattle.formula_table.proofs.NodeLemmas.{grows_none}
use Rattle.formula_table.proofs.ForallLemmas.{foralls_stand}
use Rattle.formula_table.proofs.formula_table.FormulaTable.enter_some.Goals as goal

pub returns-in_err-foralls-clause-grows : goal.returns-in_err-foralls-clause-grows
returns-in_err-foralls-clause-grows c = grows_none c.args.self.now

pub enter_nodes-requires-clause-foralls_stand : goal.enter_nodes-requires-clause-foralls_stand
enter_nodes-requires-clause-foralls_stand c = subst (ForallNumbersStand c.args.formula.now c.enter_foralls.new.table) (sym c.deref-2.ensures.value) (foralls_stand c.args.formula.now c.args.self.now c.enter_foralls.new.table c.in_ok-numbers.numbers.items c.in_ok-numbers.ensures.ok)
