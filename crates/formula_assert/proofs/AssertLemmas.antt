-- A formula that was entered, and its root.
use Rattle.std.proofs.Common.{◌≡◌, ℕ, ◌<◌, ◌++◌, List, [], length, take, All, sym, ap, subst, ◌∙◌, append-nil}
use Rattle.std.proofs.Math.Seq.{take-append_seam}
use Rattle.std.proofs.lemmas.List.Elements.{All-nil}
use Rattle.graph_terms.specs.declared.term_row.TermRow.{TermRow}
use Rattle.graph_meaning.specs.Standing.{terms_of}
use Rattle.graph_meaning.specs.State.{GraphState}
use Rattle.formula_draft.specs.Draft.{Formula}
use Rattle.formula_table.specs.declared.enter_fault.EnterFault.TheVariants.{Memory}
use Rattle.formula_table.specs.Entry.{Enters, EntersRows}
use Rattle.formula_table.specs.Body.{IsFormulaOver}
use Rattle.formula_table.proofs.StandLaws.{stands_after}
use Rattle.formula_table.specs.Formulas.{Formulas, GrowsTable, NodesStand, first_formulas}
use Rattle.formula_assert.specs.declared.level.Level.{Level}
use Rattle.match_graph.specs.GraphTerms.{with_terms}
use Rattle.match_graph.specs.GraphTermsLaws.{terms-with_terms}
use Rattle.formula_assert.specs.AssertFormula.{StopsOver}
use Rattle.formula_assert.specs.Held.{held}
use Rattle.formula_assert.specs.InLevel.{GrowsGraph, HoldsMore, KeepsLevels}
use Rattle.formula_assert.specs.StackInside.{IsStackOf, assertions_with}
use Rattle.formula_assert.proofs.Growth.{grows_both, grows_terms, terms_longer, NodesStand-more}
use Rattle.formula_assert.proofs.StackLemmas.{grows_entered, grows_nothing, saved_same, stack_grown, stack_keeps, cut_back}

-- the terms of no tuple stand
pub none_below : (graph : GraphState) → All (λ term. term < length (terms_of graph.standing)) []
none_below graph = All-nil (λ term. term < length (terms_of graph.standing))

module _ (formula : Formula) (tuple : List ℕ) (is : IsFormulaOver (length tuple) formula) (graph entered : GraphState) (below : All (λ term. term < length (terms_of graph.standing)) tuple) (table grown : Formulas) (limit root : ℕ) (enters : Enters (λ more. entered ≡ with_terms graph more) formula tuple (terms_of graph.standing) limit table grown root) (stand : NodesStand (length (terms_of graph.standing)) table.nodes) where
  entered_grows : GrowsGraph graph entered
  entered_grows = grows_terms graph entered enters.rows_grow.added enters.rows_grow.grew

  pub table_grew : GrowsTable table grown
  table_grew = grows_entered formula enters.terms table grown root enters.table_grows

  -- the root stands
  pub entered_root : root < length grown.nodes
  entered_root = (stands_after (λ more. entered ≡ with_terms graph more) formula tuple is (terms_of graph.standing) below limit table grown root enters).root_stands

  -- the nodes are over terms that stand
  pub entered_over : NodesStand (length (terms_of entered.standing)) grown.nodes
  entered_over =
      let rows : terms_of entered.standing ≡ terms_of graph.standing ++ enters.rows_grow.added = ap (λ (g : GraphState). terms_of g.standing) enters.rows_grow.grew ∙ terms-with_terms graph enters.rows_grow.added in
      subst (λ (list : List TermRow). NodesStand (length list) grown.nodes) (sym rows)
      ((stands_after (λ more. entered ≡ with_terms graph more) formula tuple is (terms_of graph.standing) below limit table grown root enters).terms_stand stand)

  module _ (after : GraphState) (asserted kept : List ℕ) (levels : List Level) (more : HoldsMore (held entered asserted) (held after kept)) (stack : IsStackOf graph table asserted levels) where
    all_grows : GrowsGraph graph after
    all_grows = grows_both graph entered after entered_grows more.grows

    -- the stack is one, as far as the root was asserted
    pub asserted_stack : IsStackOf after grown kept levels
    asserted_stack =
        stack_grown graph after table grown asserted kept more.more levels stack all_grows table_grew more.asserted_are
        (NodesStand-more (length (terms_of entered.standing)) (length (terms_of after.standing)) grown.nodes (terms_longer entered after more.grows) entered_over)

    -- and its levels are as before
    pub asserted_keeps : KeepsLevels (assertions_with graph table asserted levels) (assertions_with after grown kept levels)
    asserted_keeps = stack_keeps graph after table grown asserted kept more.more levels stack all_grows table_grew more.asserted_are

    pub asserted_saved : (assertions_with after grown kept levels).saved ≡ (assertions_with graph table asserted levels).saved
    asserted_saved = saved_same graph after table grown asserted kept more.more levels stack all_grows table_grew more.asserted_are

    -- where what was asserted of the root is taken back, and the nodes with it
    module _ (back : GraphState) (cut : Formulas) (left : List ℕ) (nodes foralls count : ℕ) (nodes_are : nodes ≡ length table.nodes) (foralls_are : foralls ≡ length table.foralls) (count_is : count ≡ length asserted)
        (back_is : back ≡ entered) (cut_is : cut ≡ first_formulas nodes foralls grown) (left_is : left ≡ take count kept) where
      same_table : cut ≡ table
      same_table = cut_is ∙ cut_back table grown table_grew nodes foralls nodes_are foralls_are

      same_asserted : left ≡ asserted
      same_asserted = left_is ∙ ap (λ (n : ℕ). take n kept) count_is ∙ ap (take (length asserted)) more.asserted_are ∙ take-append_seam asserted more.more

      back_grows : GrowsGraph graph back
      back_grows = subst (GrowsGraph graph) (sym back_is) entered_grows

      table_same : GrowsTable table cut
      table_same = grows_nothing table cut same_table

      nothing_more : left ≡ asserted ++ []
      nothing_more = same_asserted ∙ sym (append-nil asserted)

      -- the stack is one
      pub undone_stack : IsStackOf back cut left levels
      undone_stack =
          stack_grown graph back table cut asserted left [] levels stack back_grows table_same nothing_more
          (subst (λ (formulas : Formulas). NodesStand (length (terms_of back.standing)) formulas.nodes) (sym same_table) (NodesStand-more (length (terms_of graph.standing)) (length (terms_of back.standing)) table.nodes (terms_longer graph back back_grows) stand))

      -- its levels are as before
      pub undone_keeps : KeepsLevels (assertions_with graph table asserted levels) (assertions_with back cut left levels)
      undone_keeps = stack_keeps graph back table cut asserted left [] levels stack back_grows table_same nothing_more

      -- and but for the terms all is as before
      pub undone_stops : limit ≡ graph.limit → StopsOver formula tuple (assertions_with graph table asserted levels) (assertions_with back cut left levels) Memory
      undone_stops same_limit = (
        record {
          added = enters.rows_grow.added;
          terms = enters.terms;
          grew = back_is ∙ enters.rows_grow.grew;
          enters = subst (λ (most : ℕ). EntersRows formula tuple (terms_of graph.standing) most enters.rows_grow.added enters.terms) same_limit enters.rows_grow.enters;
        },
        record { formulas_are = same_table; asserted_are = same_asserted; saved_are = saved_same graph back table cut asserted left [] levels stack back_grows table_same nothing_more },
      )
