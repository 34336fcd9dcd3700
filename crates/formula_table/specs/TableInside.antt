-- What a `FormulaTable` keeps true of its fields.
use Rattle.std.specs.Prelude.{◌<◌, ◌^◌, length}
use Rattle.indexmap.specs.IndexMap.{values}
use Rattle.formula_table.specs.declared.formula_table.FormulaTable.TheInside.{Inside}
use Rattle.formula_draft.specs.Items.{AreKeyed}
use Rattle.formula_table.specs.Node.{entered_key}
use Rattle.formula_table.specs.Formulas.{Formulas, IsFormulaTable}

-- the table that the fields hold
abbrev pub table_of : Inside → Formulas
table_of inside = record { nodes = values inside.nodes; foralls = inside.foralls.items; limit = inside.limit }

-- nodes stand under their keys, and numbers fit
pub record IsKeptTable (inside : Inside) : Type 0 where
  pub keyed : AreKeyed entered_key inside.nodes.entries
  pub is_table : IsFormulaTable (table_of inside)
  pub limit_fits : inside.limit < 2 ^ 32
  pub foralls_fit : length inside.foralls.items < 2 ^ 32
