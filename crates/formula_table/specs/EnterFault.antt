-- Why a formula was not entered.
use Rattle.graph_terms.specs.declared.table_fault.TableFault.{TableFault}
use Rattle.graph_terms.specs.declared.table_fault.TableFault.TheVariants.{Full, Memory}
use Rattle.formula_table.specs.declared.enter_fault.EnterFault.{EnterFault}
use Rattle.formula_table.specs.declared.enter_fault.EnterFault.TheVariants as entering

-- the fault that a term's fault is
abbrev pub entry_fault : TableFault → EnterFault
entry_fault Full = entering.TermsFull
entry_fault Memory = entering.Memory
