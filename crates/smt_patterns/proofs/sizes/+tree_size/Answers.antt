use Rattle.std.proofs.Common.{◌≡◌, Some, slice_get, ap, ◌∙◌, arith}
use Rattle.formula_draft.specs.declared.draft_row.DraftRow.TheVariants.{App}
use Rattle.smt_patterns.proofs.SizeLemmas.{size_some, size_variable, size_all, size_more, size_same, size_large}
use Rattle.smt_patterns.proofs.sizes.+tree_size.Goals as goal
use Rattle.smt_patterns.proofs.sizes.+tree_size.Goals.{then-part-row+in_ok-size-in-App, else-part-row}

pub returns-then-most-eq0-clause-none : goal.returns-then-most-eq0-clause-none
returns-then-most-eq0-clause-none t c = omega (arith, c.if-most-eq0.true, size_some c.args.draft.now.rows c.args.row c.requires)

pub returns-in_err-size-in-App-clause-none : goal.returns-in_err-size-in-App-clause-none
returns-in_err-size-in-App-clause-none t c =
    let is : slice_get c.args.draft.now.rows c.args.row ≡ Some (App c.in-App.symbol c.in-App.args) = c.row_at.ensures ∙ ap Some c.in-App.is in
    rw c.from_residual.ensures (size_large c.args.draft.now.rows c.args.row c.requires c.in-App.symbol c.in-App.args is c.loop-i.i c.loop-i.size c.get-part.result c.get-part.ensures.value c.loop-i.invariant.is
    c.args.most c.loop-i.invariant.fits c.if-part-row.true c.in_err-size-in-App.ensures.none)

pub loop-i-preserved : goal.loop-i-preserved
loop-i-preserved t c =
    let is : slice_get c.args.draft.now.rows c.args.row ≡ Some (App c.in-App.symbol c.in-App.args) = c.row_at.ensures ∙ ap Some c.in-App.is in
    elim c.if-part-row.branch [
      | then-part-row+in_ok-size-in-App w ↦ record {
        is = w.size-is ∙ size_more c.args.draft.now.rows c.args.row c.requires c.in-App.symbol c.in-App.args is c.loop-i.i c.loop-i.size c.get-part.result c.get-part.ensures.value c.loop-i.invariant.is w.if-part-row.true w.in_ok-size-in-App.field-0 w.in_ok-size-in-App.ensures.is;
        fits = omega (arith, w.size-is, c.loop-i.invariant.fits, w.in_ok-size-in-App.ensures.fits);
      }
      | else-part-row w ↦ record {
        is = w.size-is ∙ size_same c.args.draft.now.rows c.args.row c.requires c.in-App.symbol c.in-App.args is c.loop-i.i c.loop-i.size c.get-part.result c.get-part.ensures.value c.loop-i.invariant.is w.if-part-row.false;
        fits = omega (arith, w.size-is, c.loop-i.invariant.fits);
      }
    ]

pub returns-in-Var-clause-is : goal.returns-in-Var-clause-is
returns-in-Var-clause-is t c = size_variable c.args.draft.now.rows c.args.row c.requires c.in-Var.index (c.row_at.ensures ∙ ap Some c.in-Var.is)

pub returns-after-loop-i-clause-is : goal.returns-after-loop-i-clause-is
returns-after-loop-i-clause-is t c =
    let is : slice_get c.args.draft.now.rows c.args.row ≡ Some (App c.in-App.symbol c.in-App.args) = c.row_at.ensures ∙ ap Some c.in-App.is in
    size_all c.args.draft.now.rows c.args.row c.requires c.in-App.symbol c.in-App.args is c.loop-i.i c.loop-i.size c.loop-i.invariant.is (omega (arith, c.len-i-end.ensures, c.loop-i-test.false))
