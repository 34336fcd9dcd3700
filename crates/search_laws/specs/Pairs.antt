-- Formulas that finitely many instances of their foralls refute.
use Rattle.std.specs.Prelude.{◌≡◌, ℕ, IsTrue, List, [], slice_get, slice_index, Some, All, Contains}
use Rattle.graph_terms.specs.declared.term_row.TermRow.{TermRow}
use Rattle.graph_terms.specs.Terms.{HasRow, IsTable}
use Rattle.formula_draft.specs.declared.draft_row.DraftRow.{DraftRow}
use Rattle.formula_draft.specs.declared.draft_row.DraftRow.TheVariants.{Var, App}
use Rattle.formula_draft.specs.declared.draft_node.DraftNode.{DraftNode}
use Rattle.formula_draft.specs.Draft.{Formula}
use Rattle.formula_table.specs.declared.node.Node.{Node}
use Rattle.formula_table.specs.Entry.{entered_row, entered_node}
use Rattle.formula_table.specs.Formulas.{Formulas}
use Rattle.formula_table.specs.Instance.{HasBody}
use Rattle.formula_value.specs.Holds.{HasNode}
use Rattle.search_laws.specs.Assignment.{Assignment, IsAssignment, Satisfies}

-- a forall, a ground term for each of its variables, and the instance as a formula over terms of its own table
pub record Pair : Type 0 where
  pub forall : ℕ
  pub tuple : List ℕ
  pub rows : List TermRow
  pub nodes : List Node
  pub node : ℕ

-- the term is the row of the body, with the tuple's terms in the places of its variables, where these are the terms of
-- its rows
abbrev pub IsRowAt : List TermRow → List ℕ → List ℕ → DraftRow → ℕ → Type 0
IsRowAt rows tuple terms (Var index) term = slice_get tuple index ≡ Some term
IsRowAt rows tuple terms (App symbol args) term = HasRow rows term (entered_row terms symbol args)

-- the node of the pair is the body, with the tuple's terms in the places of its variables: each row has its term, and
-- each node its node
pub record IsBodyAt (body : Formula) (pair : Pair) : Type 0 where
  pub terms : List ℕ
  pub numbers : List ℕ
  pub each_row : (k : ℕ) (row : DraftRow) → slice_get body.rows k ≡ Some row →
      IsRowAt pair.rows pair.tuple terms row (slice_index terms k)
  pub each_node : (k : ℕ) (node : DraftNode) → slice_get body.nodes k ≡ Some node →
      HasNode pair.nodes (slice_index numbers k) (entered_node terms [] numbers node)
  pub root : slice_index numbers body.root ≡ pair.node

-- the pair is an instance of a forall of the table, over ground terms
pub record IsInstanceOf (formulas : Formulas) (pair : Pair) : Type 0 where
  pub body : Formula
  pub has_body : HasBody formulas pair.forall body
  pub is_body : IsBodyAt body pair
  pub terms : IsTable pair.rows

-- the forall is false, or the instance is satisfied
abbrev pub Obeys : Assignment → Pair → Type 0
Obeys given pair = IsTrue (given.foralls pair.forall) → Satisfies given pair.rows pair.nodes pair.node

-- There are finitely many instances such that no finite assignment satisfies all of the formulas and, for each of these
-- instances, makes the forall false or satisfies the instance.
pub record AreRefutedBy (formulas : Formulas) (rows : List TermRow) (ns : List ℕ) (pairs : List Pair) : Type 0 where
  pub instances : All (IsInstanceOf formulas) pairs
  pub refutes : (given : Assignment) → IsAssignment given →
      ((n : ℕ) → Contains ns n → Satisfies given rows formulas.nodes n) →
      ((pair : Pair) → Contains pairs pair → Obeys given pair) → ⊥

-- so some finite list of instances does
abbrev pub AreRefutedByInstances : Formulas → List TermRow → List ℕ → Type 0
AreRefutedByInstances formulas rows ns = (pairs : List Pair) × AreRefutedBy formulas rows ns pairs
