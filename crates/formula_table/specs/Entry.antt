-- How a formula is entered over a tuple of terms, one for each of its variables: its reached rows become terms, its
-- reached foralls get the next numbers, and its reached nodes become nodes of the table, each in the formula's order.
use Rattle.std.specs.Prelude.{◌≡◌, ℕ, ◌+◌, ◌<◌, ◌⊎◌, min, max, List}
use Rattle.std.specs.Prelude.{[], ◌∷◌, ◌++◌, length, map, slice_get, slice_index, Some}
use Rattle.graph_terms.specs.declared.term_row.TermRow.{TermRow}
use Rattle.graph_trigger.specs.declared.trigger.Trigger.{Trigger}
use Rattle.graph_meaning.specs.Questions.{AreAll}
use Rattle.graph_terms.specs.Terms.{HasRow, term_row}
use Rattle.formula_draft.specs.declared.draft_row.DraftRow.TheVariants.{Var, App}
use Rattle.formula_draft.specs.declared.draft_node.DraftNode.{DraftNode}
use Rattle.formula_draft.specs.declared.draft_node.DraftNode.TheVariants.{Equal, Atom, And, Or, Forall}
use Rattle.formula_draft.specs.declared.draft_forall.DraftForall.{DraftForall}
use Rattle.formula_draft.specs.Reach.{ReachesNode, ReachesRow}
use Rattle.formula_draft.specs.Draft.{Formula}
use Rattle.formula_table.specs.declared.node.Node.{Node}
use Rattle.formula_table.specs.declared.node.Node.TheVariants as entered
use Rattle.formula_table.specs.declared.table_forall.TableForall.{TableForall}
use Rattle.formula_table.specs.declared.enter_fault.EnterFault.{EnterFault}
use Rattle.formula_table.specs.declared.enter_fault.EnterFault.TheVariants.{TermsFull, NodesFull, Memory}
use Rattle.formula_table.specs.Formulas.{Formulas}
use Rattle.formula_table.specs.Body.{IsBodyOf}
use Rattle.formula_table.specs.InOrder.{AreInOrder, IsFullFor}

-- the row over the terms that its arguments became
abbrev pub entered_row : List ℕ → ℕ → List ℕ → TermRow
entered_row terms symbol args = term_row symbol (map (slice_index terms) args)

-- the row with this number is reached, and becomes this row of a table: a variable that of its term in the tuple,
-- which stands, and an application the one over terms
pub data BecomesRow (formula : Formula) (tuple : List ℕ) (rows : List TermRow) (terms : List ℕ) (n : ℕ) : TermRow →
    Type 0 where
  variable : {index term : ℕ} {row : TermRow} → ReachesRow formula.rows formula.nodes formula.root n →
      slice_get formula.rows n ≡ Some (Var index) → slice_get tuple index ≡ Some term → HasRow rows term row →
      BecomesRow formula tuple rows terms n row
  application : {symbol : ℕ} {args : List ℕ} → ReachesRow formula.rows formula.nodes formula.root n →
      slice_get formula.rows n ≡ Some (App symbol args) →
      BecomesRow formula tuple rows terms n (entered_row terms symbol args)

-- the first rows were entered: the rows that were added, and the term of each, which means nothing for a row that
-- isn't reached
abbrev pub EntersRows : Formula → List ℕ → List TermRow → ℕ → List TermRow → List ℕ → Type 0
EntersRows formula tuple rows limit added terms = AreInOrder (BecomesRow formula tuple rows terms) rows limit
    (length terms) added terms

-- a trigger with the number of its forall and its place
abbrev pub placed : ℕ → ℕ → Trigger → Trigger
placed forall place trigger = record trigger { forall = forall; place = place }

-- triggers with the number of their forall and their places, from this place on
abbrev pub numbered : ℕ → ℕ → List Trigger → List Trigger
numbered forall place [] = []
numbered forall place (trigger ∷ triggers) = placed forall place trigger ∷ numbered forall (place + 1) triggers

-- what a forall of a formula is under its number in the table: its triggers have the number and their places, and its
-- body has what is reached of the formula's
pub record BecomesForall (formula : Formula) (number : ℕ) (drafted : DraftForall) (forall : TableForall) : Type 0
  where
    pub variables_are : forall.variables ≡ drafted.variables
    pub triggers_are : forall.triggers ≡ numbered number 0 drafted.triggers
    pub body_is : IsBodyOf formula.rows formula.nodes drafted.body forall.body

-- a reached node is the forall with this index
pub record ReachesForall (formula : Formula) (index : ℕ) : Type 0 where
  pub node : ℕ
  pub reached : ReachesNode formula.nodes formula.root node
  pub stands : slice_get formula.nodes node ≡ Some (Forall index)

-- the first foralls were entered: those that are reached got the next numbers, in order
pub record EntersForalls (formula : Formula) (old added : List TableForall) (numbers : List ℕ) : Type 0 where
  pub reached : List ℕ
  pub all : AreAll (λ index. (index < length numbers) × ReachesForall formula index) reached
  pub count : length reached ≡ length added
  pub each : (k index : ℕ) (drafted : DraftForall) (forall : TableForall) → slice_get reached k ≡ Some index →
      slice_get formula.foralls index ≡ Some drafted → slice_get added k ≡ Some forall →
      (slice_index numbers index ≡ length old + k) × BecomesForall formula (length old + k) drafted forall

-- the node over terms, numbers of foralls and earlier nodes; the terms of an equation in ascending order
abbrev pub entered_node : List ℕ → List ℕ → List ℕ → DraftNode → Node
entered_node terms foralls numbers (Equal positive left right) = entered.Equal positive
    (min (slice_index terms left) (slice_index terms right)) (max (slice_index terms left) (slice_index terms right))
entered_node terms foralls numbers (Atom positive row) = entered.Atom positive (slice_index terms row)
entered_node terms foralls numbers (And parts) = entered.And (map (slice_index numbers) parts)
entered_node terms foralls numbers (Or parts) = entered.Or (map (slice_index numbers) parts)
entered_node terms foralls numbers (Forall index) = entered.Forall (slice_index foralls index)

-- the node with this number is reached, and is this one in the table
pub record BecomesNode (formula : Formula) (terms foralls numbers : List ℕ) (n : ℕ) (node : Node) : Type 0 where
  pub draft_node : DraftNode
  pub reached : ReachesNode formula.nodes formula.root n
  pub stands : slice_get formula.nodes n ≡ Some draft_node
  pub node_is : node ≡ entered_node terms foralls numbers draft_node

-- the first nodes were entered: the nodes that were added, and the number of each
abbrev pub EntersNodes : Formula → List ℕ → List ℕ → List Node → ℕ → List Node → List ℕ → Type 0
EntersNodes formula terms foralls nodes limit added numbers = AreInOrder (BecomesNode formula terms foralls numbers)
    nodes limit (length numbers) added numbers

-- all rows were entered, and the terms grew by what they added
pub record RowsGrow (grown : List TermRow → Type 0) (formula : Formula) (tuple : List ℕ) (rows : List TermRow)
    (limit : ℕ) (terms : List ℕ) : Type 0 where
  pub added : List TermRow
  pub grew : grown added
  pub enters : EntersRows formula tuple rows limit added terms
  pub all : length terms ≡ length formula.rows

-- the first rows were entered, the terms grew by what they added, and there is no room for the next term
pub record FillsTerms (grown : List TermRow → Type 0) (formula : Formula) (tuple : List ℕ) (rows : List TermRow)
    (limit : ℕ) : Type 0 where
  pub added : List TermRow
  pub terms : List ℕ
  pub grew : grown added
  pub enters : EntersRows formula tuple rows limit added terms
  pub full : IsFullFor (BecomesRow formula tuple rows terms (length terms)) (rows ++ added) limit

-- the first rows were entered, the terms grew by what they added, and perhaps memory was refused for the next term
pub record LacksMemory (grown refused : List TermRow → Type 0) (formula : Formula) (tuple : List ℕ)
    (rows : List TermRow) (limit : ℕ) : Type 0 where
  pub added : List TermRow
  pub terms : List ℕ
  pub grew : grown added ⊎ refused added
  pub enters : EntersRows formula tuple rows limit added terms

-- all foralls were entered
pub record ForallsGrow (formula : Formula) (old added : List TableForall) (numbers : List ℕ) : Type 0 where
  pub enters : EntersForalls formula old added numbers
  pub all : length numbers ≡ length formula.foralls

-- all nodes were entered, and the root has this number
pub record NodesGrow (formula : Formula) (terms foralls : List ℕ) (old : Formulas) (added : List Node)
    (number : ℕ) : Type 0 where
  pub numbers : List ℕ
  pub enters : EntersNodes formula terms foralls old.nodes old.limit added numbers
  pub all : length numbers ≡ length formula.nodes
  pub root : slice_get numbers formula.root ≡ Some number

-- the first nodes were entered, and there is no room for the next
pub record FillsNodes (formula : Formula) (terms foralls : List ℕ) (old : Formulas) : Type 0 where
  pub added : List Node
  pub numbers : List ℕ
  pub enters : EntersNodes formula terms foralls old.nodes old.limit added numbers
  pub full : IsFullFor (BecomesNode formula terms foralls numbers (length numbers)) (old.nodes ++ added) old.limit

-- the table grew by the foralls and the nodes of the formula, over these terms, and the root has this number
pub record TableGrows (formula : Formula) (terms : List ℕ) (old new : Formulas) (number : ℕ) : Type 0 where
  pub foralls : List TableForall
  pub forall_numbers : List ℕ
  pub foralls_grow : ForallsGrow formula old.foralls foralls forall_numbers
  pub nodes : List Node
  pub nodes_grow : NodesGrow formula terms forall_numbers old nodes number
  pub new_is : new ≡ record { nodes = old.nodes ++ nodes; foralls = old.foralls ++ foralls; limit = old.limit }

-- over these terms there is no room for all nodes
pub record FillsTable (formula : Formula) (terms : List ℕ) (old : Formulas) : Type 0 where
  pub foralls : List TableForall
  pub forall_numbers : List ℕ
  pub foralls_grow : ForallsGrow formula old.foralls foralls forall_numbers
  pub fills : FillsNodes formula terms forall_numbers old

-- why the table did not grow
abbrev pub StopsTable : Formula → List ℕ → Formulas → EnterFault → Type 0
StopsTable formula terms old TermsFull = ⊥
StopsTable formula terms old NodesFull = FillsTable formula terms old
StopsTable formula terms old Memory = Unit {0}

-- the formula was entered over the tuple: its rows as terms, then its foralls and nodes, of which the root has this
-- number
pub record Enters (grown : List TermRow → Type 0) (formula : Formula) (tuple : List ℕ) (rows : List TermRow)
    (limit : ℕ) (old new : Formulas) (number : ℕ) : Type 0 where
  pub terms : List ℕ
  pub rows_grow : RowsGrow grown formula tuple rows limit terms
  pub table_grows : TableGrows formula terms old new number

-- the rows were entered as terms, and there is no room for all nodes
pub record LacksNodes (grown : List TermRow → Type 0) (formula : Formula) (tuple : List ℕ) (rows : List TermRow)
    (limit : ℕ) (old : Formulas) : Type 0 where
  pub terms : List ℕ
  pub rows_grow : RowsGrow grown formula tuple rows limit terms
  pub fills : FillsTable formula terms old

-- the formula was not entered
abbrev pub StopsEntry : (List TermRow → Type 0) → (List TermRow → Type 0) → Formula → List ℕ → List TermRow → ℕ →
    Formulas → EnterFault → Type 0
StopsEntry grown refused formula tuple rows limit old TermsFull = FillsTerms grown formula tuple rows limit
StopsEntry grown refused formula tuple rows limit old NodesFull = LacksNodes grown formula tuple rows limit old
StopsEntry grown refused formula tuple rows limit old Memory = LacksMemory grown refused formula tuple rows limit
