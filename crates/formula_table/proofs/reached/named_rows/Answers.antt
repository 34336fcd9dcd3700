use Rattle.std.proofs.Common.{◌<◌, ◌+◌, Bool, false, List, Some, length, subst, sym, ap, ◌∙◌, arith}
use Rattle.std.proofs.lemmas.Option.{slice_get-get_or}
use Rattle.graph_terms.proofs.ListLaws.{refilled}
use Rattle.formula_draft.specs.DraftNode.{rows_of}
use Rattle.formula_table.specs.Marks.{Marks, IsMarked}
use Rattle.formula_table.proofs.MarkLemmas.{AreNamed, AreNamed-marked, AreNamed-unmarked, AreNamed-all, not_marked, unmarked}
use Rattle.formula_table.proofs.reached.named_rows.Goals as goal
use Rattle.formula_table.proofs.reached.named_rows.Goals.{then-nodes-n, else-nodes-n}

pub loop-n-init : goal.loop-n-init
loop-n-init c = record {
  len = omega (arith, c.in_ok-marks.ensures.len, c.in_ok-marks.marks.ok.0, c.rows.ensures);
  only = λ row is. absurd (unmarked c.rows.result row (subst (λ (marks : List Bool). IsMarked marks row) (c.in_ok-marks.ensures.items_if_clones_equal (λ y h. h)) is));
  each = λ n row node below. absurd (omega arith);
}

pub loop-n-preserved : goal.loop-n-preserved
loop-n-preserved c =
    let within : c.loop-n.n < length c.args.nodes.now = omega (arith, c.requires.nodes.len, c.nodes-n-end.ensures, c.loop-n-test.true) in
    let known = slice_get-get_or c.args.nodes.now c.loop-n.n false within in
    elim c.if-nodes-n.branch [
      | then-nodes-n w ↦
          let more = subst (λ (old : List Bool). Marks (rows_of w.node_at.result.now) old w.mark_rows.new.marks) w.deref_mut.ensures.value w.mark_rows.ensures in
          subst (AreNamed rows_of c.args.formula.now.nodes c.args.start (length c.args.formula.now.rows) (c.loop-n.n + 1)) (sym (ap (λ marks. marks.items) w.marks-is ∙ refilled c.loop-n.marks.len w.mark_rows.new.marks c.loop-n.marks.items (omega (arith, more.len, c.loop-n.marks.ok.0))))
          (AreNamed-marked rows_of c.args.formula.now.nodes c.args.start (length c.args.formula.now.rows) c.loop-n.n w.node_at.result.now c.loop-n.marks.items w.mark_rows.new.marks
          (c.requires.nodes.only c.loop-n.n (known ∙ ap Some w.if-nodes-n.true)) w.node_at.ensures more c.loop-n.invariant)
      | else-nodes-n w ↦
          subst (AreNamed rows_of c.args.formula.now.nodes c.args.start (length c.args.formula.now.rows) (c.loop-n.n + 1)) (sym (ap (λ marks. marks.items) w.marks-is))
          (AreNamed-unmarked rows_of c.args.formula.now.nodes c.args.start (length c.args.formula.now.rows) c.loop-n.n c.loop-n.marks.items
          (λ reach. not_marked c.args.nodes.now c.loop-n.n _ known w.if-nodes-n.false (c.requires.nodes.each c.loop-n.n reach)) c.loop-n.invariant)
    ]

pub returns : goal.returns
returns c = AreNamed-all rows_of c.args.formula.now.nodes c.args.start (length c.args.formula.now.rows) c.loop-n.n c.loop-n.marks.items (omega (arith, c.nodes-n-end.ensures, c.loop-n-test.false)) c.loop-n.invariant
