use Rattle.std.proofs.Common.{◌<◌, [], ℕ, Bool, List, length, All, refl, sym, subst, ◌∙◌, arith}
use Rattle.std.specs.Prelude.{slice_index}
use Rattle.graph_meaning.specs.Questions.{AreAll}
use Rattle.graph_terms.proofs.ListLaws.{get_or-any}
use Rattle.formula_draft.specs.Reach.{ReachesNode, ReachesRow}
use Rattle.formula_draft.specs.Draft.{Formula}
use Rattle.formula_table.specs.Marks.{IsMarked}
use Rattle.formula_table.specs.Body.{renamed_row, renamed_node}
use Rattle.formula_table.specs.BodyInside.{ArePlaces, AreMoved}
use Rattle.formula_table.proofs.BodyLemmas.{kept_with, kept_below, body_made}
use Rattle.formula_table.proofs.body.Body.of_node.Goals as goal

pub places-requires-clause-below : goal.places-requires-clause-below
places-requires-clause-below c =
    let formula = c.args.formula.now in
    let kept = c.in_ok-kept_rows.kept_rows.items in
    let all = subst (λ (marks : List Bool). AreAll (IsMarked marks) kept) c.deref-2.ensures.value c.in_ok-kept_rows.ensures.all in
    let below = kept_below (length formula.rows) (ReachesRow formula.rows formula.nodes c.args.start) c.in_ok-rows.rows.items kept c.in_ok-rows.ensures all in
    subst (λ (count : ℕ). All (λ n. n < count) c.deref-4.result.now) (sym c.rows-2.ensures) (subst (All (λ n. n < length formula.rows)) (sym c.deref-4.ensures.value) below)

pub places-requires-2-clause-below : goal.places-requires-2-clause-below
places-requires-2-clause-below c =
    let formula = c.args.formula.now in
    let kept = c.in_ok-kept_nodes.kept_nodes.items in
    let all = subst (λ (marks : List Bool). AreAll (IsMarked marks) kept) c.deref-3.ensures.value c.in_ok-kept_nodes.ensures.all in
    let below = kept_below (length formula.nodes) (ReachesNode formula.nodes c.args.start) c.in_ok-nodes.nodes.items kept c.in_ok-nodes.ensures all in
    subst (λ (count : ℕ). All (λ n. n < count) c.deref-5.result.now) (sym c.nodes-2.ensures) (subst (All (λ n. n < length formula.nodes)) (sym c.deref-5.ensures.value) below)

pub moved_rows-requires-clause-stand : goal.moved_rows-requires-clause-stand
moved_rows-requires-clause-stand c =
    let formula = c.args.formula.now in
    let kept = c.in_ok-kept_rows.kept_rows.items in
    let all = subst (λ (marks : List Bool). AreAll (IsMarked marks) kept) c.deref-2.ensures.value c.in_ok-kept_rows.ensures.all in
    let below = kept_below (length formula.rows) (ReachesRow formula.rows formula.nodes c.args.start) c.in_ok-rows.rows.items kept c.in_ok-rows.ensures all in
    subst (All (λ n. n < length formula.rows)) (sym c.deref-6.ensures.value) below

pub moved_nodes-requires-clause-stand : goal.moved_nodes-requires-clause-stand
moved_nodes-requires-clause-stand c =
    let formula = c.args.formula.now in
    let kept = c.in_ok-kept_nodes.kept_nodes.items in
    let all = subst (λ (marks : List Bool). AreAll (IsMarked marks) kept) c.deref-3.ensures.value c.in_ok-kept_nodes.ensures.all in
    let below = kept_below (length formula.nodes) (ReachesNode formula.nodes c.args.start) c.in_ok-nodes.nodes.items kept c.in_ok-nodes.ensures all in
    subst (All (λ n. n < length formula.nodes)) (sym c.deref-8.ensures.value) below

pub returns : goal.returns
returns c =
    let formula = c.args.formula.now in
    let rows = formula.rows in
    let nodes = formula.nodes in
    let start = c.args.start in
    let kept_rows = c.in_ok-kept_rows.kept_rows.items in
    let kept_nodes = c.in_ok-kept_nodes.kept_nodes.items in
    let row_places = c.in_ok-row_places.row_places.items in
    let node_places = c.in_ok-node_places.node_places.items in
    let body_rows = c.in_ok-body_rows.body_rows.items in
    let body_nodes = c.in_ok-body_nodes.body_nodes.items in
    let all_rows : AreAll (ReachesRow rows nodes start) kept_rows = kept_with (length rows) (ReachesRow rows nodes start) c.in_ok-rows.rows.items kept_rows c.in_ok-rows.ensures
    (subst (λ (marks : List Bool). AreAll (IsMarked marks) kept_rows) c.deref-2.ensures.value c.in_ok-kept_rows.ensures.all) in
    let all_nodes : AreAll (ReachesNode nodes start) kept_nodes = kept_with (length nodes) (ReachesNode nodes start) c.in_ok-nodes.nodes.items kept_nodes c.in_ok-nodes.ensures
    (subst (λ (marks : List Bool). AreAll (IsMarked marks) kept_nodes) c.deref-3.ensures.value c.in_ok-kept_nodes.ensures.all) in
    let row_are : ArePlaces kept_rows (length rows) row_places = subst (λ (kept : List ℕ). ArePlaces kept (length rows) row_places) c.deref-4.ensures.value
    (subst (λ (count : ℕ). ArePlaces c.deref-4.result.now count row_places) c.rows-2.ensures c.in_ok-row_places.ensures) in
    let node_are : ArePlaces kept_nodes (length nodes) node_places = subst (λ (kept : List ℕ). ArePlaces kept (length nodes) node_places) c.deref-5.ensures.value
    (subst (λ (count : ℕ). ArePlaces c.deref-5.result.now count node_places) c.nodes-2.ensures c.in_ok-node_places.ensures) in
    let rows_moved : AreMoved (renamed_row (slice_index row_places)) rows kept_rows body_rows = subst (λ (kept : List ℕ). AreMoved (renamed_row (slice_index row_places)) rows kept body_rows) c.deref-6.ensures.value
    (subst (λ (places : List ℕ). AreMoved (renamed_row (slice_index places)) rows c.deref-6.result.now body_rows) c.deref-7.ensures.value c.in_ok-body_rows.ensures) in
    let nodes_moved : AreMoved (renamed_node (slice_index row_places) (slice_index node_places)) nodes kept_nodes body_nodes =
    subst (λ (kept : List ℕ). AreMoved (renamed_node (slice_index row_places) (slice_index node_places)) nodes kept body_nodes) c.deref-8.ensures.value
    (subst (λ (places : List ℕ). AreMoved (renamed_node (slice_index places) (slice_index node_places)) nodes c.deref-8.result.now body_nodes) c.deref-9.ensures.value
    (subst (λ (places : List ℕ). AreMoved (renamed_node (slice_index c.deref-9.result.now) (slice_index places)) nodes c.deref-8.result.now body_nodes) c.deref-10.ensures.value c.in_ok-body_nodes.ensures)) in
    let within : start < length node_places = omega (arith, node_are.len, c.requires.stands) in
    let body : Formula = record { rows = body_rows; nodes = body_nodes; foralls = []; root = c.index.result.now } in
    body_made rows nodes formula.foralls c.requires.formula.lawful start c.requires.stands kept_rows kept_nodes row_places node_places all_rows all_nodes row_are node_are
    body rows_moved nodes_moved (c.index.ensures ∙ get_or-any node_places start c.index.result.now 0 within) refl
