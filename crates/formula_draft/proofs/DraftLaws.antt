-- What callers know of a draft that a row or a node was put into.
use Rattle.std.proofs.Common.{◌≡◌, ℕ, Bool, List, [], ◌∷◌, ◌++◌, slice_get}
use Rattle.std.proofs.Common.{Option, Some, None, refl, sym, ap, append-nil}
use Rattle.std.specs.Option.{option_map}
use Rattle.std.proofs.lemmas.Option.{none-some, same_Some}
use Rattle.graph_terms.proofs.ListLaws.{slice_get-push}
use Rattle.formula_draft.specs.declared.draft_row.DraftRow.{DraftRow}
use Rattle.formula_draft.specs.declared.draft_node.DraftNode.{DraftNode}
use Rattle.formula_draft.specs.DraftRow.{same_row}
use Rattle.formula_draft.specs.DraftNode.{same_node}
use Rattle.formula_draft.specs.Items.{with_item}
use Rattle.formula_draft.proofs.ItemLaws.{put_cases}
use Rattle.formula_draft.proofs.SameLaws.{Tells, found_at, rows_told, nodes_told}
use Rattle.formula_draft.specs.Draft.{Draft, with_row, with_node}

-- an item that was put stands under its number, and the others are as they were
pub record HasPut {X : Type 0} (new : X) (old after : List X) (n : ℕ) : Type 0 where
  pub stands : slice_get after n ≡ Some new
  pub more : List X
  pub grew : after ≡ old ++ more

has_put : {X : Type 0} (same : X → X → Bool) → Tells same → (most : ℕ) (new : X) (old after : List X) (n : ℕ) →
    with_item same most new old ≡ Some (n, after) → HasPut new old after n
has_put same told most new old after n = put_cases same most new old (λ k items. HasPut new old items k)
    (λ k found. record { stands = found_at same told new old k found; more = []; grew = sym (append-nil old) })
    (λ fresh room. record { stands = slice_get-push old new; more = new ∷ []; grew = refl })
    n after

-- the draft with other rows, or with other nodes
abbrev pub with_rows : Draft → List DraftRow → Draft
with_rows draft rows = record draft { rows = rows }

abbrev pub with_nodes : Draft → List DraftNode → Draft
with_nodes draft nodes = record draft { nodes = nodes }

abbrev rows_put : Draft → ℕ × List DraftRow → ℕ × Draft
rows_put draft put = (put.0, record draft { rows = put.1 })

abbrev nodes_put : Draft → ℕ × List DraftNode → ℕ × Draft
nodes_put draft put = (put.0, record draft { nodes = put.1 })

row_cases : (draft new : Draft) (n : ℕ) (o : Option (ℕ × List DraftRow)) →
    option_map (rows_put draft) o ≡ Some (n, new) → (rows : List DraftRow) × (o ≡ Some (n, rows)) ×
    (new ≡ with_rows draft rows)
row_cases draft new n None h = absurd (none-some (n, new) h)
row_cases draft new n (Some put) h =
    let both : rows_put draft put ≡ (n, new) = same_Some (rows_put draft put) (n, new) h in (
      put.1,
      ap (λ (k : ℕ). Some (k, put.1)) (ap (λ (p : ℕ × Draft). p.0) both),
      sym (ap (λ (p : ℕ × Draft). p.1) both),
    )

node_cases : (draft new : Draft) (n : ℕ) (o : Option (ℕ × List DraftNode)) →
    option_map (nodes_put draft) o ≡ Some (n, new) → (nodes : List DraftNode) × (o ≡ Some (n, nodes)) ×
    (new ≡ with_nodes draft nodes)
node_cases draft new n None h = absurd (none-some (n, new) h)
node_cases draft new n (Some put) h =
    let both : nodes_put draft put ≡ (n, new) = same_Some (nodes_put draft put) (n, new) h in (
      put.1,
      ap (λ (k : ℕ). Some (k, put.1)) (ap (λ (p : ℕ × Draft). p.0) both),
      sym (ap (λ (p : ℕ × Draft). p.1) both),
    )

-- a row that was put stands under its number, and all else is as it was
pub row_stands_at : (row : DraftRow) (draft new : Draft) (n : ℕ) → with_row row draft ≡ Some (n, new) →
    (rows : List DraftRow) × (new ≡ with_rows draft rows) × HasPut row draft.rows rows n
row_stands_at row draft new n h = let put = row_cases draft new n (with_item same_row draft.most_rows row draft.rows)
    h in (put.0, put.2, has_put same_row rows_told draft.most_rows row draft.rows put.0 n put.1)

-- a node that was put stands under its number, and all else is as it was
pub node_stands_at : (node : DraftNode) (draft new : Draft) (n : ℕ) → with_node node draft ≡ Some (n, new) →
    (nodes : List DraftNode) × (new ≡ with_nodes draft nodes) × HasPut node draft.nodes nodes n
node_stands_at node draft new n h = let put = node_cases draft new n
    (with_item same_node draft.most_nodes node draft.nodes) h in
    (put.0, put.2, has_put same_node nodes_told draft.most_nodes node draft.nodes put.0 n put.1)
