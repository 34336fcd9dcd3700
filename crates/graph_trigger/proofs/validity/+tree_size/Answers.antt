use Rattle.std.proofs.Common.{◌≡◌, ◌+◌, Some, slice_get, refl, ap, ◌∙◌, arith}
use Rattle.graph_trigger.specs.declared.pattern_row.PatternRow.TheVariants.{App}
use Rattle.graph_trigger.specs.Trigger.{none}
use Rattle.graph_trigger.proofs.SizeLemmas.{IsLarge-zero, IsSize-variable, part_below, HaveSize-more, IsLarge-part, IsSize-all}
use Rattle.graph_trigger.proofs.validity.+tree_size.Goals as goal

pub returns-then-most-eq0-clause-none : goal.returns-then-most-eq0-clause-none
returns-then-most-eq0-clause-none t c = IsLarge-zero c.args.rows.now c.requires.earlier c.args.row c.args.most c.requires.row c.if-most-eq0.true

pub loop-i-init : goal.loop-i-init
loop-i-init t c = (0, none, refl, omega arith)

pub tree_size-requires : goal.tree_size-requires
tree_size-requires t c =
    let is : slice_get c.args.rows.now c.args.row ≡ Some (App c.in-App.symbol c.in-App.args) = c.get.ensures ∙ ap Some c.in-App.is in
    let old = c.loop-i.invariant in
    let below = part_below c.args.rows.now c.requires.earlier c.args.row c.args.most c.requires.row c.in-App.symbol c.in-App.args is c.loop-i.i c.loop-i.size old.0 old.1 old.2 old.3 c.get-in-loop-i.result c.get-in-loop-i.ensures.value in
    (omega (arith, below.0), (c.requires.earlier, below.1))

pub returns-in_err-size-in-App-clause-none : goal.returns-in_err-size-in-App-clause-none
returns-in_err-size-in-App-clause-none t c =
    let is : slice_get c.args.rows.now c.args.row ≡ Some (App c.in-App.symbol c.in-App.args) = c.get.ensures ∙ ap Some c.in-App.is in
    let old = c.loop-i.invariant in
    rw c.from_residual.ensures (IsLarge-part c.args.rows.now c.requires.earlier c.args.row c.args.most c.requires.row c.in-App.symbol c.in-App.args is c.loop-i.i c.loop-i.size old.0 old.1 old.2 old.3 c.get-in-loop-i.result c.get-in-loop-i.ensures.value c.in_err-size-in-App.ensures.none)

pub loop-i-preserved : goal.loop-i-preserved
loop-i-preserved t c =
    let is : slice_get c.args.rows.now c.args.row ≡ Some (App c.in-App.symbol c.in-App.args) = c.get.ensures ∙ ap Some c.in-App.is in
    let old = c.loop-i.invariant in
    let new = c.in_ok-size-in-App.ensures.some in
    (old.0 + (c.in_ok-size-in-App.field-0 + 0), HaveSize-more c.args.rows.now c.requires.earlier c.args.row c.args.most c.requires.row c.in-App.symbol c.in-App.args is c.loop-i.i c.loop-i.size old.0 old.1 old.2 old.3 c.get-in-loop-i.result c.in_ok-size-in-App.field-0 c.get-in-loop-i.ensures.value new.size_is, omega (arith, old.2), omega (arith, old.3, new.fits))

pub returns-in-Var-clause-some : goal.returns-in-Var-clause-some
returns-in-Var-clause-some t c = IsSize-variable c.args.rows.now c.requires.earlier c.args.row c.args.most c.requires.row c.in-Var.index (c.get.ensures ∙ ap Some c.in-Var.is) (omega arith)

pub returns-after-loop-i-clause-some : goal.returns-after-loop-i-clause-some
returns-after-loop-i-clause-some t c =
    let is : slice_get c.args.rows.now c.args.row ≡ Some (App c.in-App.symbol c.in-App.args) = c.get.ensures ∙ ap Some c.in-App.is in
    let old = c.loop-i.invariant in
    IsSize-all c.args.rows.now c.requires.earlier c.args.row c.args.most c.requires.row c.in-App.symbol c.in-App.args is c.loop-i.i c.loop-i.size old.0 old.1 old.2 old.3 (omega arith)
