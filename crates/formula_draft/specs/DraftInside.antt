-- What a `FormulaDraft` keeps true of its fields.
use Rattle.std.specs.Prelude.{◌≤◌, ◌<◌, ◌^◌, length}
use Rattle.indexmap.specs.IndexMap.{values}
use Rattle.formula_draft.specs.declared.formula_draft.FormulaDraft.TheInside.{Inside}
use Rattle.formula_draft.specs.Items.{AreKeyed}
use Rattle.formula_draft.specs.DraftRow.{row_key}
use Rattle.formula_draft.specs.DraftNode.{node_key}
use Rattle.formula_draft.specs.Draft.{Draft}

-- the draft that the fields hold
abbrev pub draft_of : Inside → Draft
draft_of inside = record {
  rows = values inside.rows;
  nodes = values inside.nodes;
  foralls = inside.foralls.items;
  most_rows = inside.most_rows;
  most_nodes = inside.most_nodes;
}

-- rows and nodes stand under their keys and within the limits, and numbers fit
pub record IsKept (inside : Inside) : Type 0 where
  pub rows_keyed : AreKeyed row_key inside.rows.entries
  pub nodes_keyed : AreKeyed node_key inside.nodes.entries
  pub rows_within : length (values inside.rows) ≤ inside.most_rows
  pub nodes_within : length (values inside.nodes) ≤ inside.most_nodes
  pub rows_fit : inside.most_rows < 2 ^ 32
  pub nodes_fit : inside.most_nodes < 2 ^ 32
  pub foralls_fit : length inside.foralls.items < 2 ^ 32
