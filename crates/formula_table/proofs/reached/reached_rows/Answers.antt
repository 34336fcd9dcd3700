use Rattle.std.proofs.Common.{◌≡◌, ◌<◌, ◌-◌, ℕ, Bool, List, Some, length, subst, sym, ap, ◌∙◌, arith}
use Rattle.graph_terms.proofs.ListLaws.{refilled}
use Rattle.formula_draft.specs.DraftRow.{args_of}
use Rattle.formula_draft.specs.DraftNode.{rows_of}
use Rattle.formula_draft.specs.Reach.{ReachesRow}
use Rattle.formula_table.specs.Marks.{Marks, IsMarked, IsNamed}
use Rattle.formula_table.proofs.MarkLemmas.{IsClosing, looked_up, not_marked, rows_start, rows_marked_at, rows_unmarked_at, rows_marked}
use Rattle.formula_table.proofs.reached.reached_rows.Goals as goal

pub loop-n-init : goal.loop-n-init
loop-n-init c = (
  omega (arith, c.rows-n.ensures),
  rows_start c.args.formula.now.rows c.args.formula.now.nodes c.args.formula.now.foralls c.requires.formula.lawful c.args.start c.rows-n.result c.in_ok-marks.marks.items c.rows-n.ensures c.in_ok-marks.ensures,
)

pub loop-n-preserved-then-index : goal.loop-n-preserved-then-index
loop-n-preserved-then-index c =
    let closing = c.loop-n.invariant.1 in
    let marks = c.loop-n.marks.items in
    let within : c.loop-n.n - 1 < length marks = omega (arith, closing.len, c.loop-n.invariant.0, c.loop-n-test.true) in
    let is : IsMarked marks (c.loop-n.n - 1) = looked_up marks (c.loop-n.n - 1) c.index.result.now within c.index.ensures ∙ ap Some c.if-index.true in
    let more = subst (λ (old : List Bool). Marks (args_of c.row_at.result.now) old c.mark_args.new.marks) c.deref_mut.ensures.value c.mark_args.ensures in
    let whole = refilled c.loop-n.marks.len c.mark_args.new.marks marks (omega (arith, more.len, c.loop-n.marks.ok.0)) in (
      omega (arith, c.loop-n.invariant.0),
      subst (IsClosing c.args.formula.now.rows args_of (ReachesRow c.args.formula.now.rows c.args.formula.now.nodes c.args.start) (IsNamed rows_of c.args.formula.now.nodes c.args.start) (c.loop-n.n - 1)) (sym whole)
          (rows_marked_at c.args.formula.now.rows c.args.formula.now.nodes c.args.formula.now.foralls c.requires.formula.lawful c.args.start c.loop-n.n (c.loop-n.n - 1) c.row_at.result.now marks c.mark_args.new.marks (omega (arith, c.loop-n-test.true)) is c.row_at.ensures more closing),
    )

pub loop-n-preserved : goal.loop-n-preserved
loop-n-preserved c =
    let closing = c.loop-n.invariant.1 in
    let marks = c.loop-n.marks.items in
    let within : c.loop-n.n - 1 < length marks = omega (arith, closing.len, c.loop-n.invariant.0, c.loop-n-test.true) in
    let is = not_marked marks (c.loop-n.n - 1) c.index.result.now (looked_up marks (c.loop-n.n - 1) c.index.result.now within c.index.ensures) c.if-index.false in (
      omega (arith, c.loop-n.invariant.0),
      rows_unmarked_at c.args.formula.now.rows c.args.formula.now.nodes c.args.formula.now.foralls c.requires.formula.lawful c.args.start c.loop-n.n (c.loop-n.n - 1) marks (omega (arith, c.loop-n-test.true)) is closing,
    )

pub returns : goal.returns
returns c =
    let end : c.loop-n.n ≡ 0 = omega (arith, c.loop-n-test.false) in
    rows_marked c.args.formula.now.rows c.args.formula.now.nodes c.args.start c.loop-n.marks.items (subst (λ (n : ℕ). IsClosing c.args.formula.now.rows args_of (ReachesRow c.args.formula.now.rows c.args.formula.now.nodes c.args.start) (IsNamed rows_of c.args.formula.now.nodes c.args.start) n c.loop-n.marks.items) end c.loop-n.invariant.1)
