-- Formulas over variables, and the bodies of foralls.
use Rattle.std.specs.Prelude.{◌≡◌, ℕ, ◌<◌, List, [], map, length, slice_get, slice_index, Some, All}
use Rattle.graph_meaning.specs.Questions.{AreAll}
use Rattle.formula_draft.specs.declared.draft_row.DraftRow.{DraftRow}
use Rattle.formula_draft.specs.declared.draft_row.DraftRow.TheVariants.{Var, App}
use Rattle.formula_draft.specs.declared.draft_node.DraftNode.{DraftNode}
use Rattle.formula_draft.specs.declared.draft_node.DraftNode.TheVariants.{Equal, Atom, And, Or, Forall}
use Rattle.formula_draft.specs.DraftRow.{args_of}
use Rattle.formula_draft.specs.DraftNode.{rows_of, parts_of}
use Rattle.formula_draft.specs.Reach.{ReachesNode, ReachesRow}
use Rattle.formula_draft.specs.Draft.{Formula, AreLawful}

-- a formula is lawful, its root stands, and the variables that it reaches outside the bodies of foralls are among the
-- first so many
pub record IsFormulaOver (variables : ℕ) (formula : Formula) : Type 0 where
  pub lawful : AreLawful formula.rows formula.nodes formula.foralls
  pub root_stands : formula.root < length formula.nodes
  pub below : (row index : ℕ) → ReachesRow formula.rows formula.nodes formula.root row →
      slice_get formula.rows row ≡ Some (Var index) → index < variables

-- each row and each node is reached from the root
pub record IsCompact (formula : Formula) : Type 0 where
  pub rows_reached : (n : ℕ) → n < length formula.rows → ReachesRow formula.rows formula.nodes formula.root n
  pub nodes_reached : (n : ℕ) → n < length formula.nodes → ReachesNode formula.nodes formula.root n

-- the row with other numbers for the rows that it names
abbrev pub renamed_row : (ℕ → ℕ) → DraftRow → DraftRow
renamed_row row_name (Var index) = Var index
renamed_row row_name (App symbol args) = App symbol (map row_name args)

-- the node with other numbers for the rows and the parts that it names
abbrev pub renamed_node : (ℕ → ℕ) → (ℕ → ℕ) → DraftNode → DraftNode
renamed_node row_name part_name (Equal positive left right) = Equal positive (row_name left) (row_name right)
renamed_node row_name part_name (Atom positive row) = Atom positive (row_name row)
renamed_node row_name part_name (And parts) = And (map part_name parts)
renamed_node row_name part_name (Or parts) = Or (map part_name parts)
renamed_node row_name part_name (Forall index) = Forall index

-- the row at this place is the one that is kept there, but for places in place of numbers
pub record KeepsRow (rows : List DraftRow) (kept : List ℕ) (place : ℕ) (row : DraftRow) : Type 0 where
  pub args_kept : All (λ arg. arg < length kept) (args_of row)
  pub was : slice_get rows (slice_index kept place) ≡ Some (renamed_row (slice_index kept) row)

-- the same of a node
pub record KeepsNode (nodes : List DraftNode) (kept_rows kept_nodes : List ℕ) (place : ℕ) (node : DraftNode) :
    Type 0 where
  pub rows_kept : All (λ row. row < length kept_rows) (rows_of node)
  pub parts_kept : All (λ part. part < length kept_nodes) (parts_of node)
  pub was : slice_get nodes (slice_index kept_nodes place)
      ≡ Some (renamed_node (slice_index kept_rows) (slice_index kept_nodes) node)

-- what is reached from the node, and nothing else, as a formula of its own: the reached rows and nodes in their
-- order, each naming the places of what it named
pub record IsBodyOf (rows : List DraftRow) (nodes : List DraftNode) (start : ℕ) (body : Formula) : Type 0 where
  pub kept_rows : List ℕ
  pub kept_nodes : List ℕ
  pub all_rows : AreAll (ReachesRow rows nodes start) kept_rows
  pub all_nodes : AreAll (ReachesNode nodes start) kept_nodes
  pub row_count : length body.rows ≡ length kept_rows
  pub node_count : length body.nodes ≡ length kept_nodes
  pub each_row : (k : ℕ) (row : DraftRow) → slice_get body.rows k ≡ Some row → KeepsRow rows kept_rows k row
  pub each_node : (k : ℕ) (node : DraftNode) → slice_get body.nodes k ≡ Some node →
      KeepsNode nodes kept_rows kept_nodes k node
  pub root_kept : slice_get kept_nodes body.root ≡ Some start
  pub no_foralls : body.foralls ≡ []
