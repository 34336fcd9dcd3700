-- What is reached in a formula.
use Rattle.std.specs.Prelude.{◌≡◌, ℕ, List, slice_get, Some, Contains}
use Rattle.formula_draft.specs.declared.draft_row.DraftRow.{DraftRow}
use Rattle.formula_draft.specs.declared.draft_node.DraftNode.{DraftNode}
use Rattle.formula_draft.specs.DraftRow.{args_of}
use Rattle.formula_draft.specs.DraftNode.{rows_of, parts_of}

-- the node is reached from the start, without going into the bodies of foralls
pub data ReachesNode (nodes : List DraftNode) (start : ℕ) : ℕ → Type 0 where
  itself : ReachesNode nodes start start
  part_of_it : {n part : ℕ} {node : DraftNode} → ReachesNode nodes start n → slice_get nodes n ≡ Some node →
      Contains (parts_of node) part → ReachesNode nodes start part

-- the row is reached from a node that is reached from the start
pub data ReachesRow (rows : List DraftRow) (nodes : List DraftNode) (start : ℕ) : ℕ → Type 0 where
  named : {n row : ℕ} {node : DraftNode} → ReachesNode nodes start n → slice_get nodes n ≡ Some node →
      Contains (rows_of node) row → ReachesRow rows nodes start row
  argument : {n arg : ℕ} {row : DraftRow} → ReachesRow rows nodes start n → slice_get rows n ≡ Some row →
      Contains (args_of row) arg → ReachesRow rows nodes start arg
