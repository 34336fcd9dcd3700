-- What is reached becomes something.
use Rattle.std.proofs.Common.{◌≡◌, ℕ, ◌<◌, List, [], ◌∷◌, length, slice_get, Some, All, refl, arith}
use Rattle.std.proofs.lemmas.List.Elements.{All-contains}
use Rattle.graph_terms.specs.declared.term_row.TermRow.{TermRow}
use Rattle.graph_terms.proofs.ListLaws.{element_at, All-slice_get}
use Rattle.formula_draft.specs.declared.draft_row.DraftRow.{DraftRow}
use Rattle.formula_draft.specs.declared.draft_row.DraftRow.TheVariants.{Var, App}
use Rattle.formula_draft.specs.declared.draft_node.DraftNode.TheVariants.{Forall}
use Rattle.formula_draft.specs.Reach.{ReachesNode, ReachesRow}
use Rattle.formula_draft.proofs.ReachLaws.{row_stands, node_stands}
use Rattle.formula_draft.specs.Draft.{Formula, IsFormula}
use Rattle.formula_table.specs.Body.{IsFormulaOver}
use Rattle.formula_table.specs.declared.node.Node.{Node}
use Rattle.formula_table.specs.Entry.BecomesRow.{variable, application}
use Rattle.formula_table.specs.Entry.{BecomesRow, BecomesNode, ReachesForall, entered_row, entered_node}

-- a formula has no variables outside the bodies of foralls
pub over_none : (formula : Formula) → IsFormula formula → IsFormulaOver 0 formula
over_none formula is = record {
  lawful = is.lawful;
  root_stands = is.root_stands;
  below = λ row index reach at. absurd (is.closed row index reach at);
}

-- a reached row becomes a row of a table in which the terms of the tuple stand
pub row_becomes : (formula : Formula) (tuple : List ℕ) → IsFormulaOver (length tuple) formula → (rows : List TermRow) →
    All (λ term. term < length rows) tuple → (terms : List ℕ) (n : ℕ) →
    ReachesRow formula.rows formula.nodes formula.root n → (x : TermRow) × BecomesRow formula tuple rows terms n x
row_becomes formula tuple is rows stand terms n reach =
    let at = element_at formula.rows n (row_stands formula.rows formula.nodes formula.foralls is.lawful formula.root
    is.root_stands reach) in
    by at.0 at.1
  where
    by : (row : DraftRow) → slice_get formula.rows n ≡ Some row → (x : TermRow) ×
        BecomesRow formula tuple rows terms n x
    by (Var index) at =
        let term = element_at tuple index (is.below n index reach at) in
        let row = element_at rows term.0 (All-slice_get (λ t. t < length rows) tuple index term.0 stand term.1) in
        (row.0, variable reach at term.1 row.1)
    by (App symbol args) at = (entered_row terms symbol args, application reach at)

module _ (formula : Formula) (variables : ℕ) (is : IsFormulaOver variables formula) where
  -- a reached node becomes a node of the table
  pub node_becomes : (terms foralls numbers : List ℕ) (n : ℕ) → ReachesNode formula.nodes formula.root n →
      (x : Node) × BecomesNode formula terms foralls numbers n x
  node_becomes terms foralls numbers n reach =
      let at = element_at formula.nodes n (node_stands formula.rows formula.nodes formula.foralls is.lawful
      formula.root is.root_stands reach) in (
        entered_node terms foralls numbers at.0,
        record {
          draft_node = at.0;
          reached = reach;
          stands = at.1;
          node_is = refl;
        },
      )

  -- a reached forall stands
  pub forall_stands : (index : ℕ) → ReachesForall formula index → index < length formula.foralls
  forall_stands index reach = All-contains (λ n. n < length formula.foralls) (index ∷ []) index
      (is.lawful.nodes_fit reach.node (Forall index) reach.stands).foralls_stand (0, omega arith, refl)
