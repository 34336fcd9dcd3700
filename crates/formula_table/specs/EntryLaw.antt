-- What stands after a formula was entered.
use Rattle.std.specs.Prelude.{ℕ, ◌<◌, List, length}
use Rattle.graph_terms.specs.declared.term_row.TermRow.{TermRow}
use Rattle.graph_terms.specs.Terms.{IsTable}
use Rattle.formula_table.specs.Formulas.{Formulas, IsFormulaTable, NodesStand}

-- terms and formulas stay tables, the nodes are over terms that stand, and so is the node with this number one
pub record StandsAfterEntry (rows later : List TermRow) (old new : Formulas) (number : ℕ) : Type 0 where
  pub rows_stand : IsTable rows → IsTable later
  pub formulas_stand : IsFormulaTable old → IsFormulaTable new
  pub terms_stand : NodesStand (length rows) old.nodes → NodesStand (length later) new.nodes
  pub root_stands : number < length new.nodes
