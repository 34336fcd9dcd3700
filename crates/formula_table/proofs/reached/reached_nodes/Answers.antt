use Rattle.std.proofs.Common.{◌≡◌, ◌<◌, ◌-◌, ℕ, Bool, List, Some, length, subst, sym, ap, ◌∙◌, arith}
use Rattle.graph_terms.proofs.ListLaws.{refilled}
use Rattle.formula_draft.specs.DraftNode.{parts_of}
use Rattle.formula_draft.specs.Reach.{ReachesNode}
use Rattle.formula_table.specs.Marks.{Marks, IsMarked}
use Rattle.formula_table.proofs.MarkLemmas.{IsClosing, looked_up, not_marked, nodes_start, nodes_marked_at, nodes_unmarked_at, nodes_marked}
use Rattle.formula_table.proofs.reached.reached_nodes.Goals as goal

pub loop-n-init : goal.loop-n-init
loop-n-init c = (
  omega (arith, c.nodes-count.ensures),
  nodes_start c.args.formula.now.rows c.args.formula.now.nodes c.args.formula.now.foralls c.requires.formula.lawful c.args.start c.nodes-count.result c.in_ok-marks.marks.items (c.in_ok-marks.ensures.items_if_clones_equal (λ y h. h)) c.nodes-count.ensures c.requires.stands,
)

pub loop-n-preserved-then-index : goal.loop-n-preserved-then-index
loop-n-preserved-then-index c =
    let closing = c.loop-n.invariant.1 in
    let marks = c.loop-n.marks.items in
    let within : c.loop-n.n - 1 < length marks = omega (arith, closing.len, c.loop-n.invariant.0, c.loop-n-test.true) in
    let is : IsMarked marks (c.loop-n.n - 1) = looked_up marks (c.loop-n.n - 1) c.index.result.now within c.index.ensures ∙ ap Some c.if-index.true in
    let more = subst (λ (old : List Bool). Marks (parts_of c.node_at.result.now) old c.mark_parts.new.marks) c.deref_mut.ensures.value c.mark_parts.ensures in
    let whole = refilled c.loop-n.marks.len c.mark_parts.new.marks marks (omega (arith, more.len, c.loop-n.marks.ok.0)) in (
      omega (arith, c.loop-n.invariant.0),
      subst (IsClosing c.args.formula.now.nodes parts_of (ReachesNode c.args.formula.now.nodes c.args.start) (λ n. n ≡ c.args.start) (c.loop-n.n - 1)) (sym whole)
          (nodes_marked_at c.args.formula.now.rows c.args.formula.now.nodes c.args.formula.now.foralls c.requires.formula.lawful c.args.start c.loop-n.n (c.loop-n.n - 1) c.node_at.result.now marks c.mark_parts.new.marks (omega (arith, c.loop-n-test.true)) is c.node_at.ensures more closing),
    )

pub loop-n-preserved : goal.loop-n-preserved
loop-n-preserved c =
    let closing = c.loop-n.invariant.1 in
    let marks = c.loop-n.marks.items in
    let within : c.loop-n.n - 1 < length marks = omega (arith, closing.len, c.loop-n.invariant.0, c.loop-n-test.true) in
    let is = not_marked marks (c.loop-n.n - 1) c.index.result.now (looked_up marks (c.loop-n.n - 1) c.index.result.now within c.index.ensures) c.if-index.false in (
      omega (arith, c.loop-n.invariant.0),
      nodes_unmarked_at c.args.formula.now.rows c.args.formula.now.nodes c.args.formula.now.foralls c.requires.formula.lawful c.args.start c.loop-n.n (c.loop-n.n - 1) marks (omega (arith, c.loop-n-test.true)) is closing,
    )

pub returns : goal.returns
returns c =
    let end : c.loop-n.n ≡ 0 = omega (arith, c.loop-n-test.false) in
    nodes_marked c.args.formula.now.nodes c.args.start c.loop-n.marks.items (subst (λ (n : ℕ). IsClosing c.args.formula.now.nodes parts_of (ReachesNode c.args.formula.now.nodes c.args.start) (λ n. n ≡ c.args.start) n c.loop-n.marks.items) end c.loop-n.invariant.1)
