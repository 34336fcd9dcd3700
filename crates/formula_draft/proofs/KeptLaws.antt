-- What stays lawful when a draft grows.
use Rattle.std.proofs.Common.{◌≡◌, ℕ, ◌<◌, ◌≤◌, List, [], ◌∷◌, ◌++◌, length, Option}
use Rattle.std.proofs.Common.{Some, None, All, refl, sym, ap, subst, ⊎_elim, append-nil, arith}
use Rattle.std.proofs.lemmas.List.{length-append, append-nil}
use Rattle.std.proofs.lemmas.List.Elements.{All-weaker}
use Rattle.std.specs.List.{position_from}
use Rattle.std.specs.Option.{option_map}
use Rattle.std.proofs.lemmas.Option.{none-some, same_Some}
use Rattle.graph_terms.proofs.ListLaws.{push_cases}
use Rattle.formula_draft.specs.declared.draft_row.DraftRow.{DraftRow}
use Rattle.formula_draft.specs.declared.draft_row.DraftRow.TheVariants.{Var}
use Rattle.formula_draft.specs.declared.draft_node.DraftNode.{DraftNode}
use Rattle.formula_draft.specs.declared.draft_node.DraftNode.TheVariants.{Forall}
use Rattle.formula_draft.specs.declared.draft_forall.DraftForall.{DraftForall}
use Rattle.formula_draft.specs.DraftRow.{same_row}
use Rattle.formula_draft.specs.DraftNode.{rows_of, foralls_of, same_node}
use Rattle.formula_draft.specs.Items.{with_item}
use Rattle.formula_draft.specs.Draft.{Draft, AreLawful, IsDraft, FitsRow, FitsNode}
use Rattle.formula_draft.specs.Draft.{FitsForall, with_row, with_node, with_forall}
use Rattle.formula_draft.proofs.ItemLaws.{put_cases}
use Rattle.formula_draft.proofs.SameLaws.{once-push, rows_told, nodes_told}
use Rattle.formula_draft.proofs.ReachLaws.{back, node_back, row_back, node_stands, row_stands}

-- a bound that holds of all grows
pub All_up : (xs : List ℕ) (m n : ℕ) → m ≤ n → All (λ x. x < m) xs → All (λ x. x < n) xs
All_up xs m n up all = All-weaker (λ x. x < m) (λ x. x < n) (λ x below. omega arith) xs all

module _ (rows : List DraftRow) (nodes : List DraftNode) (foralls : List DraftForall)
    (lawful : AreLawful rows nodes foralls) where
  -- a forall fits when rows and nodes come
  pub FitsForall-more : (new : DraftForall) (more_rows : List DraftRow) (more_nodes : List DraftNode) →
      FitsForall rows nodes new → FitsForall (rows ++ more_rows) (nodes ++ more_nodes) new
  FitsForall-more new more_rows more_nodes fits = record {
    few_variables = fits.few_variables;
    body_stands = omega (arith, length-append nodes more_nodes, fits.body_stands);
    no_forall = λ n index reach at.
        let old = node_back rows nodes foralls lawful new.body fits.body_stands more_rows more_nodes reach in
        fits.no_forall n index old (back nodes more_nodes n (Forall index)
        (node_stands rows nodes foralls lawful new.body fits.body_stands old) at);
    below = λ row index reach at.
        let old = row_back rows nodes foralls lawful new.body fits.body_stands more_rows more_nodes reach in
        fits.below row index old (back rows more_rows row (Var index)
        (row_stands rows nodes foralls lawful new.body fits.body_stands old) at);
    triggers_fit = fits.triggers_fit;
  }

module _ (rows : List DraftRow) (nodes : List DraftNode) (foralls : List DraftForall)
    (lawful : AreLawful rows nodes foralls) where
  FitsForall-row : (new : DraftForall) (row : DraftRow) → FitsForall rows nodes new →
      FitsForall (rows ++ row ∷ []) nodes new
  FitsForall-row new row fits = subst (λ all. FitsForall (rows ++ row ∷ []) all new) (append-nil nodes)
      (FitsForall-more rows nodes foralls lawful new (row ∷ []) [] fits)

  FitsForall-node : (new : DraftForall) (node : DraftNode) → FitsForall rows nodes new →
      FitsForall rows (nodes ++ node ∷ []) new
  FitsForall-node new node fits = subst (λ all. FitsForall all (nodes ++ node ∷ []) new) (append-nil rows)
      (FitsForall-more rows nodes foralls lawful new [] (node ∷ []) fits)

  -- a new row is lawful
  lawful-row : (row : DraftRow) → FitsRow (length rows) row → position_from (same_row row) 0 rows ≡ None →
      AreLawful (rows ++ row ∷ []) nodes foralls
  lawful-row row fits fresh = record {
    rows_fit = λ n r at. ⊎_elim (lawful.rows_fit n r) (λ p. subst (FitsRow n) (sym p.1)
        (subst (λ k. FitsRow k row) (sym p.0) fits)) (push_cases rows row n r at);
    rows_once = once-push same_row rows_told row rows fresh lawful.rows_once;
    nodes_fit = λ n node at. let old = lawful.nodes_fit n node at in record {
      rows_stand = All_up (rows_of node) (length rows) (length (rows ++ row ∷ []))
          (omega (arith, length-append rows (row ∷ []))) old.rows_stand;
      parts_stand = old.parts_stand;
      foralls_stand = old.foralls_stand;
    };
    nodes_once = lawful.nodes_once;
    foralls_fit = λ n forall at. FitsForall-row forall row (lawful.foralls_fit n forall at);
  }

  -- a new node is lawful
  lawful-node : (node : DraftNode) → FitsNode (length rows) (length nodes) (length foralls) node →
      position_from (same_node node) 0 nodes ≡ None → AreLawful rows (nodes ++ node ∷ []) foralls
  lawful-node node fits fresh = record {
    rows_fit = lawful.rows_fit;
    rows_once = lawful.rows_once;
    nodes_fit = λ n r at. ⊎_elim (lawful.nodes_fit n r) (λ p. subst (FitsNode (length rows) n (length foralls))
        (sym p.1) (subst (λ k. FitsNode (length rows) k (length foralls) node) (sym p.0) fits))
        (push_cases nodes node n r at);
    nodes_once = once-push same_node nodes_told node nodes fresh lawful.nodes_once;
    foralls_fit = λ n forall at. FitsForall-node forall node (lawful.foralls_fit n forall at);
  }

  -- a further forall is lawful
  pub lawful-forall : (new : DraftForall) → FitsForall rows nodes new → AreLawful rows nodes (foralls ++ new ∷ [])
  lawful-forall new fits = record {
    rows_fit = lawful.rows_fit;
    rows_once = lawful.rows_once;
    nodes_fit = λ n node at. let old = lawful.nodes_fit n node at in record {
      rows_stand = old.rows_stand;
      parts_stand = old.parts_stand;
      foralls_stand = All_up (foralls_of node) (length foralls) (length (foralls ++ new ∷ []))
          (omega (arith, length-append foralls (new ∷ []))) old.foralls_stand;
    };
    nodes_once = lawful.nodes_once;
    foralls_fit = λ n forall at. ⊎_elim (lawful.foralls_fit n forall)
        (λ p. subst (FitsForall rows nodes) (sym p.1) fits) (push_cases foralls new n forall at);
  }

module _ (draft : Draft) (is : IsDraft draft) where
  -- a draft with a row is a draft
  pub IsDraft-row : (row : DraftRow) → FitsRow (length draft.rows) row → (n : ℕ) (after : List DraftRow) →
      with_item same_row draft.most_rows row draft.rows ≡ Some (n, after) → IsDraft (record draft { rows = after })
  IsDraft-row row fits = put_cases same_row draft.most_rows row draft.rows
      (λ _ after. IsDraft (record draft { rows = after }))
      (λ _ _. is)
      (λ fresh room. record {
        lawful = lawful-row draft.rows draft.nodes draft.foralls is.lawful row fits fresh;
        rows_within = omega (arith, length-append draft.rows (row ∷ []));
        nodes_within = is.nodes_within;
      })

  -- and so with a node
  pub IsDraft-node : (node : DraftNode) → FitsNode (length draft.rows) (length draft.nodes) (length draft.foralls)
      node → (n : ℕ) (after : List DraftNode) → with_item same_node draft.most_nodes node draft.nodes
      ≡ Some (n, after) → IsDraft (record draft { nodes = after })
  IsDraft-node node fits = put_cases same_node draft.most_nodes node draft.nodes
      (λ _ after. IsDraft (record draft { nodes = after }))
      (λ _ _. is)
      (λ fresh room. record {
        lawful = lawful-node draft.rows draft.nodes draft.foralls is.lawful node fits fresh;
        rows_within = is.rows_within;
        nodes_within = omega (arith, length-append draft.nodes (node ∷ []));
      })

-- the draft with these rows, and the draft with these nodes
abbrev has_rows : Draft → ℕ × List DraftRow → ℕ × Draft
has_rows draft put = (put.0, record draft { rows = put.1 })

abbrev has_nodes : Draft → ℕ × List DraftNode → ℕ × Draft
has_nodes draft put = (put.0, record draft { nodes = put.1 })

-- a draft is lawful with a row, a node or a forall that fits
module _ (draft : Draft) (is : IsDraft draft) where
  row_put : (o : Option (ℕ × List DraftRow)) → ((n : ℕ) (after : List DraftRow) → o ≡ Some (n, after) →
      IsDraft (record draft { rows = after })) → (n : ℕ) (new : Draft) →
      option_map (has_rows draft) o ≡ Some (n, new) → IsDraft new
  row_put None lawful n new h = absurd (none-some (n, new) h)
  row_put (Some put) lawful n new h = let both : has_rows draft put
      ≡ (n, new) = same_Some (has_rows draft put) (n, new) h in
      subst IsDraft (ap (λ (p : ℕ × Draft). p.1) both) (lawful put.0 put.1 refl)

  pub IsDraft-with_row : (row : DraftRow) → FitsRow (length draft.rows) row → (n : ℕ) (new : Draft) →
      with_row row draft ≡ Some (n, new) → IsDraft new
  IsDraft-with_row row fits = row_put (with_item same_row draft.most_rows row draft.rows)
      (IsDraft-row draft is row fits)

  node_put : (o : Option (ℕ × List DraftNode)) → ((n : ℕ) (after : List DraftNode) → o ≡ Some (n, after) →
      IsDraft (record draft { nodes = after })) → (n : ℕ) (new : Draft) →
      option_map (has_nodes draft) o ≡ Some (n, new) → IsDraft new
  node_put None lawful n new h = absurd (none-some (n, new) h)
  node_put (Some put) lawful n new h = let both : has_nodes draft put
      ≡ (n, new) = same_Some (has_nodes draft put) (n, new) h in
      subst IsDraft (ap (λ (p : ℕ × Draft). p.1) both) (lawful put.0 put.1 refl)

  pub IsDraft-with_node : (node : DraftNode) → FitsNode (length draft.rows) (length draft.nodes)
      (length draft.foralls) node → (n : ℕ) (new : Draft) → with_node node draft ≡ Some (n, new) → IsDraft new
  IsDraft-with_node node fits = node_put (with_item same_node draft.most_nodes node draft.nodes)
      (IsDraft-node draft is node fits)

  pub IsDraft-with_forall : (new : DraftForall) → FitsForall draft.rows draft.nodes new →
      IsDraft (with_forall new draft)
  IsDraft-with_forall new fits = record {
    lawful = lawful-forall draft.rows draft.nodes draft.foralls is.lawful new fits;
    rows_within = is.rows_within;
    nodes_within = is.nodes_within;
  }
