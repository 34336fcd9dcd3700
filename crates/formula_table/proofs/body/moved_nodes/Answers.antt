use Rattle.std.proofs.Common.{◌+◌, ◌++◌, ◌∷◌, [], get_or, sym, ap, subst, ◌∙◌, arith}
use Rattle.std.specs.Prelude.{slice_index}
use Rattle.std.proofs.lemmas.Option.{slice_get-get_or}
use Rattle.formula_draft.specs.declared.draft_node.DraftNode.{DraftNode}
use Rattle.formula_table.specs.Body.{renamed_node}
use Rattle.formula_table.proofs.BodyLemmas.{AreMovedBelow, moved_next, moved_all}
use Rattle.formula_table.proofs.body.moved_nodes.Goals as goal

pub loop-n-preserved : goal.loop-n-preserved
loop-n-preserved c =
    let move = renamed_node (slice_index c.args.row_places.now) (slice_index c.args.node_places.now) in
    let nodes = c.args.formula.now.nodes in
    let kept = c.args.kept.now in
    let index = c.loop-n.n-index in
    let moved = c.loop-n.nodes.items in
    subst (AreMovedBelow move nodes kept (index + 1)) (sym (c.in_ok-push_node.ensures ∙ ap (λ (node : DraftNode). moved ++ node ∷ []) c.in_ok-node.ensures))
    (moved_next move nodes kept index (get_or kept index 0) c.node_at.result.now moved (slice_get-get_or kept index 0 c.loop-n-test.true) c.node_at.ensures c.loop-n.invariant)

pub returns : goal.returns
returns c =
    let move = renamed_node (slice_index c.args.row_places.now) (slice_index c.args.node_places.now) in
    moved_all move c.args.formula.now.nodes c.args.kept.now c.loop-n.n-index c.loop-n.nodes.items (omega (arith, c.loop-n-test.false, c.loop-n.auto.n-index-end)) c.loop-n.invariant
