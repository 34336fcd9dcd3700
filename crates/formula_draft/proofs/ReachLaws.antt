-- What is reached stays so when rows and nodes come.
use Rattle.std.proofs.Common.{◌≡◌, ℕ, ◌<◌, List, ◌++◌, length, slice_get, Some, sym, ap, ◌∙◌, arith}
use Rattle.std.proofs.lemmas.Option.{same_Some}
use Rattle.std.proofs.lemmas.List.Elements.{All-contains}
use Rattle.graph_terms.proofs.ListLaws.{slice_get-append_left, element_at}
use Rattle.formula_draft.specs.declared.draft_row.DraftRow.{DraftRow}
use Rattle.formula_draft.specs.declared.draft_node.DraftNode.{DraftNode}
use Rattle.formula_draft.specs.declared.draft_forall.DraftForall.{DraftForall}
use Rattle.formula_draft.specs.DraftRow.{args_of}
use Rattle.formula_draft.specs.DraftNode.{rows_of, parts_of}
use Rattle.formula_draft.specs.Reach.{ReachesNode, ReachesRow}
use Rattle.formula_draft.specs.Reach.ReachesNode.{itself, part_of_it}
use Rattle.formula_draft.specs.Reach.ReachesRow.{named, argument}
use Rattle.formula_draft.specs.Draft.{AreLawful}

-- below the length a longer list has what the list has
pub back : {X : Type 0} (xs more : List X) (n : ℕ) (x : X) → n < length xs → slice_get (xs ++ more) n ≡ Some x →
    slice_get xs n ≡ Some x
back xs more n x within at = let here = element_at xs n within in
    here.1 ∙ ap Some (same_Some here.0 x (sym (slice_get-append_left xs more n here.0 here.1) ∙ at))

module _ (rows : List DraftRow) (nodes : List DraftNode) (foralls : List DraftForall)
    (lawful : AreLawful rows nodes foralls) (start : ℕ) (within : start < length nodes) where
  -- reached nodes stand
  pub node_stands : {n : ℕ} → ReachesNode nodes start n → n < length nodes
  node_stands itself = within
  node_stands (part_of_it {n = n} {part = part} {node = node} above at is) =
      let lower : part < n = All-contains (λ p. p < n) (parts_of node) part (lawful.nodes_fit n node at).parts_stand
      is in
      let stands = node_stands above in
      omega arith

  -- reached rows stand
  pub row_stands : {n : ℕ} → ReachesRow rows nodes start n → n < length rows
  row_stands (named {n = n} {row = row} {node = node} above at is) = All-contains (λ r. r < length rows)
      (rows_of node) row (lawful.nodes_fit n node at).rows_stand is
  row_stands (argument {n = n} {arg = arg} {row = row} above at is) =
      let lower : arg < n = All-contains (λ a. a < n) (args_of row) arg (lawful.rows_fit n row at).args is in
      let stands = row_stands above in
      omega arith

  module _ (more_rows : List DraftRow) (more_nodes : List DraftNode) where
    -- what is reached with more nodes is reached
    pub node_back : {n : ℕ} → ReachesNode (nodes ++ more_nodes) start n → ReachesNode nodes start n
    node_back itself = itself
    node_back (part_of_it {n = n} {node = node} above at is) = let old = node_back above in
        part_of_it old (back nodes more_nodes n node (node_stands old) at) is

    -- and so of rows
    pub row_back : {n : ℕ} → ReachesRow (rows ++ more_rows) (nodes ++ more_nodes) start n →
        ReachesRow rows nodes start n
    row_back (named {n = n} {node = node} above at is) = let old = node_back above in
        named old (back nodes more_nodes n node (node_stands old) at) is
    row_back (argument {n = n} {row = row} above at is) = let old = row_back above in
        argument old (back rows more_rows n row (row_stands old) at) is
