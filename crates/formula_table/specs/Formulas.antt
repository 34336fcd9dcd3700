-- The table of formulas.
use Rattle.std.specs.Prelude.{◌≡◌, ℕ, ◌<◌, ◌≤◌, Bool, List, [], ◌++◌}
use Rattle.std.specs.Prelude.{length, slice_get, take, Option, Some, option_map, All}
use Rattle.graph_trigger.specs.declared.trigger.Trigger.{Trigger}
use Rattle.graph_trigger.specs.Trigger.{IsValid}
use Rattle.formula_table.specs.declared.node.Node.{Node}
use Rattle.formula_table.specs.declared.node.Node.TheVariants.{Equal, Atom, And, Or, Forall}
use Rattle.formula_table.specs.declared.table_forall.TableForall.{TableForall}
use Rattle.formula_table.specs.declared.enter_fault.EnterFault.{EnterFault}
use Rattle.formula_table.specs.declared.enter_fault.EnterFault.TheVariants.{TermsFull, NodesFull, Memory}
use Rattle.formula_draft.specs.Items.{with_item}
use Rattle.formula_table.specs.InOrder.{StandsNowhere}
use Rattle.formula_table.specs.Body.{IsFormulaOver, IsCompact}
use Rattle.formula_table.specs.Node.{children_of, terms_in, same_entered}

-- nodes and foralls by number, and how many nodes there may be
pub record Formulas : Type 0 where
  pub nodes : List Node
  pub foralls : List TableForall
  pub limit : ℕ

-- nothing yet
abbrev pub no_formulas : ℕ → Formulas
no_formulas limit = record { nodes = []; foralls = []; limit = limit }

-- the first nodes and foralls
abbrev pub first_formulas : ℕ → ℕ → Formulas → Formulas
first_formulas nodes foralls table = record {
  nodes = take nodes table.nodes;
  foralls = take foralls table.foralls;
  limit = table.limit;
}

-- the trigger at a place of a forall with so many variables
pub record IsTriggerOf (forall place variables : ℕ) (trigger : Trigger) : Type 0 where
  pub valid : IsValid trigger
  pub forall_is : trigger.forall ≡ forall
  pub place_is : trigger.place ≡ place
  pub variables_are : trigger.variables ≡ variables

-- the forall with this number has few variables, its triggers name it and their places, and its body is a formula
-- over its variables, without foralls, all of which is reached
pub record IsForallOf (n : ℕ) (forall : TableForall) : Type 0 where
  pub few_variables : forall.variables ≤ 32
  pub triggers : (place : ℕ) (trigger : Trigger) → slice_get forall.triggers place ≡ Some trigger →
      IsTriggerOf n place forall.variables trigger
  pub body_over : IsFormulaOver forall.variables forall.body
  pub no_foralls : forall.body.foralls ≡ []
  pub compact : IsCompact forall.body

-- parts are earlier, the terms of an equation ascend, foralls stand, and no node stands twice
pub record IsFormulaTable (table : Formulas) : Type 0 where
  pub earlier : (n : ℕ) (node : Node) → slice_get table.nodes n ≡ Some node →
      All (λ part. part < n) (children_of node)
  pub ascending : (n left right : ℕ) (positive : Bool) → slice_get table.nodes n ≡ Some (Equal positive left right) →
      left ≤ right
  pub once : (m n : ℕ) (node : Node) → slice_get table.nodes m ≡ Some node → slice_get table.nodes n ≡ Some node →
      m ≡ n
  pub foralls_stand : (n forall : ℕ) → slice_get table.nodes n ≡ Some (Forall forall) → forall < length table.foralls
  pub foralls : (n : ℕ) (forall : TableForall) → slice_get table.foralls n ≡ Some forall → IsForallOf n forall
  pub within : length table.nodes ≤ table.limit

-- the terms of each node are among the first so many
abbrev pub NodesStand : ℕ → List Node → Type 0
NodesStand terms nodes = (n : ℕ) (node : Node) → slice_get nodes n ≡ Some node →
    All (λ term. term < terms) (terms_in node)

-- none of the first nodes names a later forall
abbrev pub NamesFirst : Formulas → ℕ → ℕ → Type 0
NamesFirst table nodes foralls = (n forall : ℕ) → n < nodes → slice_get table.nodes n ≡ Some (Forall forall) →
    forall < foralls

-- the triggers of the forall with this number
abbrev pub HasTriggers : Formulas → ℕ → List Trigger → Type 0
HasTriggers table n triggers = (forall : TableForall) × (slice_get table.foralls n ≡ Some forall) ×
    (forall.triggers ≡ triggers)

-- the table with further foralls
abbrev pub with_foralls : List TableForall → Formulas → Formulas
with_foralls more table = record table { foralls = table.foralls ++ more }

-- the number of a node, and the table with it: it stands, or it is put last, or there is no room for it
abbrev pub with_entered : Node → Formulas → Option (ℕ × Formulas)
with_entered new table = option_map (λ (put : ℕ × List Node). (put.0, record table { nodes = put.1 }))
    (with_item same_entered table.limit new table.nodes)

-- the node names earlier nodes and a forall that stands, and the terms of an equation ascend
abbrev pub FitsTable : Formulas → Node → Type 0
FitsTable table (Equal positive left right) = left ≤ right
FitsTable table (Atom positive term) = Unit {0}
FitsTable table (And parts) = All (λ part. part < length table.nodes) parts
FitsTable table (Or parts) = All (λ part. part < length table.nodes) parts
FitsTable table (Forall forall) = forall < length table.foralls

-- the node stands nowhere, and there are as many as may be; or memory was refused
abbrev pub RefusesEntered : Node → Formulas → EnterFault → Type 0
RefusesEntered new table TermsFull = ⊥
RefusesEntered new table NodesFull = StandsNowhere table.nodes new × (length table.nodes ≡ table.limit)
RefusesEntered new table Memory = Unit {0}

-- the table has more nodes and foralls at its ends
pub record GrowsTable (old new : Formulas) : Type 0 where
  pub more_nodes : List Node
  pub more_foralls : List TableForall
  pub nodes_are : new.nodes ≡ old.nodes ++ more_nodes
  pub foralls_are : new.foralls ≡ old.foralls ++ more_foralls
  pub limit_is : new.limit ≡ old.limit
