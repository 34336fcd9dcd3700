-- The formula that a `Body` keeps.
use Rattle.std.specs.Prelude.{[]}
use Rattle.formula_table.specs.declared.body.Body.TheInside.{Inside}
use Rattle.formula_draft.specs.Draft.{Formula}

-- the rows, the nodes and the root that the fields hold
abbrev pub body_formula : Inside → Formula
body_formula inside = record {
  rows = inside.rows.items;
  nodes = inside.nodes.items;
  foralls = [];
  root = inside.root;
}
