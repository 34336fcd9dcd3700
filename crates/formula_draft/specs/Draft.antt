-- A formula under way: its rows, nodes and foralls, and what holds of them.
use Rattle.std.specs.Prelude.{◌≡◌, ℕ, ◌<◌, ◌≤◌, List, [], ◌∷◌, ◌++◌}
use Rattle.std.specs.Prelude.{length, slice_get, Option, Some, None, option_map, All}
use Rattle.graph_trigger.specs.declared.trigger.Trigger.{Trigger}
use Rattle.graph_terms.specs.Terms.{most_args}
use Rattle.graph_trigger.specs.Trigger.{IsValid, most_variables}
use Rattle.formula_draft.specs.declared.draft_row.DraftRow.{DraftRow}
use Rattle.formula_draft.specs.declared.draft_row.DraftRow.TheVariants.{Var}
use Rattle.formula_draft.specs.declared.draft_node.DraftNode.{DraftNode}
use Rattle.formula_draft.specs.declared.draft_node.DraftNode.TheVariants.{Forall}
use Rattle.formula_draft.specs.declared.draft_forall.DraftForall.{DraftForall}
use Rattle.formula_draft.specs.declared.draft_fault.DraftFault.{DraftFault}
use Rattle.formula_draft.specs.declared.draft_fault.DraftFault.TheVariants.{RowsFull, NodesFull, Memory}
use Rattle.formula_draft.specs.Items.{with_item}
use Rattle.formula_draft.specs.DraftRow.{args_of, same_row}
use Rattle.formula_draft.specs.DraftNode.{rows_of, parts_of, foralls_of, same_node}
use Rattle.formula_draft.specs.Reach.{ReachesNode, ReachesRow}

-- rows, nodes and foralls, and how many rows and nodes there may be
pub record Draft : Type 0 where
  pub rows : List DraftRow
  pub nodes : List DraftNode
  pub foralls : List DraftForall
  pub most_rows : ℕ
  pub most_nodes : ℕ

-- nothing yet
abbrev pub empty_draft : ℕ → ℕ → Draft
empty_draft most_rows most_nodes = record {
  rows = [];
  nodes = [];
  foralls = [];
  most_rows = most_rows;
  most_nodes = most_nodes;
}

-- the number of a row, and the draft with it: it stands, or it is put last, or there is no room for it
abbrev pub with_row : DraftRow → Draft → Option (ℕ × Draft)
with_row new draft = option_map (λ (put : ℕ × List DraftRow). (put.0, record draft { rows = put.1 }))
    (with_item same_row draft.most_rows new draft.rows)

-- the same of a node
abbrev pub with_node : DraftNode → Draft → Option (ℕ × Draft)
with_node new draft = option_map (λ (put : ℕ × List DraftNode). (put.0, record draft { nodes = put.1 }))
    (with_item same_node draft.most_nodes new draft.nodes)

-- a forall of a formula
abbrev pub draft_forall : ℕ → ℕ → List Trigger → DraftForall
draft_forall variables body triggers = record { variables = variables; body = body; triggers = triggers }

-- the draft with a forall at the end
abbrev pub with_forall : DraftForall → Draft → Draft
with_forall new draft = record draft { foralls = draft.foralls ++ new ∷ [] }

-- there was no room for the row; or memory was refused
abbrev pub RefusesRow : Option (ℕ × Draft) → DraftFault → Type 0
RefusesRow put RowsFull = put ≡ None
RefusesRow put NodesFull = ⊥
RefusesRow put Memory = Unit {0}

-- there was no room for the node; or memory was refused
abbrev pub RefusesNode : Option (ℕ × Draft) → DraftFault → Type 0
RefusesNode put RowsFull = ⊥
RefusesNode put NodesFull = put ≡ None
RefusesNode put Memory = Unit {0}

-- the arguments of the row stand, and are no more than a row may have
pub record FitsRow (rows : ℕ) (row : DraftRow) : Type 0 where
  pub args : All (λ arg. arg < rows) (args_of row)
  pub few : length (args_of row) ≤ most_args

-- the rows, parts and foralls of the node stand
pub record FitsNode (rows nodes foralls : ℕ) (node : DraftNode) : Type 0 where
  pub rows_stand : All (λ row. row < rows) (rows_of node)
  pub parts_stand : All (λ part. part < nodes) (parts_of node)
  pub foralls_stand : All (λ n. n < foralls) (foralls_of node)

-- the trigger is valid, and has so many variables
pub record FitsTrigger (variables : ℕ) (trigger : Trigger) : Type 0 where
  pub valid : IsValid trigger
  pub variables_are : trigger.variables ≡ variables

-- the body stands, reaches no forall and no variable that the forall doesn't have, and the triggers fit
pub record FitsForall (rows : List DraftRow) (nodes : List DraftNode) (new : DraftForall) : Type 0 where
  pub few_variables : new.variables ≤ most_variables
  pub body_stands : new.body < length nodes
  pub no_forall : (n index : ℕ) → ReachesNode nodes new.body n → slice_get nodes n ≡ Some (Forall index) → ⊥
  pub below : (row index : ℕ) → ReachesRow rows nodes new.body row → slice_get rows row ≡ Some (Var index) →
      index < new.variables
  pub triggers_fit : All (FitsTrigger new.variables) new.triggers

-- rows name earlier rows, nodes name rows, earlier nodes and foralls, none stands twice, and foralls fit
pub record AreLawful (rows : List DraftRow) (nodes : List DraftNode) (foralls : List DraftForall) : Type 0 where
  pub rows_fit : (n : ℕ) (row : DraftRow) → slice_get rows n ≡ Some row → FitsRow n row
  pub rows_once : (m n : ℕ) (row : DraftRow) → slice_get rows m ≡ Some row → slice_get rows n ≡ Some row → m ≡ n
  pub nodes_fit : (n : ℕ) (node : DraftNode) → slice_get nodes n ≡ Some node →
      FitsNode (length rows) n (length foralls) node
  pub nodes_once : (m n : ℕ) (node : DraftNode) → slice_get nodes m ≡ Some node → slice_get nodes n ≡ Some node →
      m ≡ n
  pub foralls_fit : (n : ℕ) (forall : DraftForall) → slice_get foralls n ≡ Some forall → FitsForall rows nodes forall

-- a draft is lawful, and within its limits
pub record IsDraft (draft : Draft) : Type 0 where
  pub lawful : AreLawful draft.rows draft.nodes draft.foralls
  pub rows_within : length draft.rows ≤ draft.most_rows
  pub nodes_within : length draft.nodes ≤ draft.most_nodes

-- a formula: its rows, nodes and foralls, and the node that it is
pub record Formula : Type 0 where
  pub rows : List DraftRow
  pub nodes : List DraftNode
  pub foralls : List DraftForall
  pub root : ℕ

-- the formula of a node
abbrev pub finished : Draft → ℕ → Formula
finished draft root = record { rows = draft.rows; nodes = draft.nodes; foralls = draft.foralls; root = root }

-- no variable is reached from the node outside the bodies of foralls
abbrev pub IsClosed : List DraftRow → List DraftNode → ℕ → Type 0
IsClosed rows nodes start = (row index : ℕ) → ReachesRow rows nodes start row →
    slice_get rows row ≡ Some (Var index) → ⊥

-- a formula is lawful, its root stands, and its variables are those of foralls
pub record IsFormula (formula : Formula) : Type 0 where
  pub lawful : AreLawful formula.rows formula.nodes formula.foralls
  pub root_stands : formula.root < length formula.nodes
  pub closed : IsClosed formula.rows formula.nodes formula.root
