-- What a `TermTable` keeps true of its fields.
use Rattle.std.specs.Prelude.{◌≤◌, ◌^◌, ◌<◌, length}
use Rattle.indexmap.specs.IndexMap.{values}
use Rattle.graph_terms.specs.Terms.{IsTable, Table}
use Rattle.graph_terms.specs.Entries.{IsKeyed}
use Rattle.graph_terms.specs.declared.table.TermTable.TheInside.{Inside}

-- the table that the fields hold
abbrev pub table_of : Inside → Table
table_of inside = record { rows = values inside.rows; limit = inside.limit }

-- each row stands under its key, and the rows are a table within its limit
pub record IsSound (inside : Inside) : Type 0 where
  pub keyed : IsKeyed inside.rows.entries
  pub is_table : IsTable (values inside.rows)
  pub within : length (values inside.rows) ≤ inside.limit
  pub least : 2 ≤ inside.limit
  pub fits : inside.limit < 2 ^ 32
