use Rattle.std.proofs.Common.{◌≡◌, ◌<◌, ◌+◌, ◌++◌, [], ◌∷◌, ℕ, List, length, Some, false, ap, subst, sym, ◌∙◌, arith}
use Rattle.std.proofs.lemmas.Option.{slice_get-get_or, same_Some}
use Rattle.formula_draft.specs.Reach.{ReachesRow}
use Rattle.formula_table.specs.EntryInside.{RowGrows, StopsRow, StopsRows}
use Rattle.formula_table.proofs.EntryLemmas.{RowsSoFar, so_far_none, so_far_next, so_far_memory, so_far_stopped, err_map}
use Rattle.formula_table.proofs.enter_rows.enter_rows.Goals as goal

pub loop-n-init : goal.loop-n-init
loop-n-init g c =
    let e = g.E.TermEntry in
    let law = g.met.E.TermEntry in
    subst (λ (terms : List ℕ). RowsSoFar (e.grown c.args.terms.now c.args.terms.now) (g.F.RowList.formula c.args.formula.now) c.args.tuple.now (e.rows c.args.terms.now) (e.limit c.args.terms.now) (e.rows c.args.terms.now) (e.limit c.args.terms.now) terms 0) (sym c.new-numbers.ensures.items)
    (so_far_none _ e.rows e.limit e.grown e.refused law.grown_rows law.grown_both (g.F.RowList.formula c.args.formula.now) c.args.tuple.now c.requires.formula c.args.terms.now c.requires.tuple (law.grown_none c.args.terms.now))

pub enter_row-requires-clause-reached : goal.enter_row-requires-clause-reached
enter_row-requires-clause-reached g c =
    let formula = (g.F.RowList.formula c.args.formula.now) in
    let marks = c.args.reached.now in
    let n = c.loop-n.n in
    let within : n < length marks = omega (arith, c.requires.reached.len, c.row_count-n-end.ensures, c.loop-n-test.true) in
    let known = slice_get-get_or marks n false within in
    let place : length c.deref.result.now ≡ n = ap length c.deref.ensures.value ∙ c.loop-n.invariant.count in (
      λ is. subst (ReachesRow formula.rows formula.nodes formula.root) (sym place) (c.requires.reached.only n (known ∙ ap Some is)),
      λ reach. same_Some _ _ (sym known ∙ c.requires.reached.each n (subst (ReachesRow formula.rows formula.nodes formula.root) place reach)),
    )

pub returns-in_err-push_number-clause-fault : goal.returns-in_err-push_number-clause-fault
returns-in_err-push_number-clause-fault g c =
    let e = g.E.TermEntry in
    let law = g.met.E.TermEntry in
    let grows = subst (λ (terms : List ℕ). RowGrows (e.grown c.loop-n.terms c.enter_row.new.terms) (g.F.RowList.formula c.args.formula.now) c.args.tuple.now (e.rows c.loop-n.terms) (e.limit c.loop-n.terms) terms c.in_ok-number.number) c.deref.ensures.value c.in_ok-number.ensures.ok in
    let more = so_far_next _ e.rows e.limit e.grown e.refused law.grown_rows law.grown_both (g.F.RowList.formula c.args.formula.now) c.args.tuple.now c.requires.formula c.args.terms.now c.requires.tuple c.loop-n.terms c.loop-n.numbers.items c.loop-n.n c.loop-n.invariant c.enter_row.new.terms c.in_ok-number.number grows in
    err_map _ _ c.from_residual-in_err-push_number.result
    (λ fault is. subst (StopsRows (e.grown c.args.terms.now c.enter_row.new.terms) (λ added. (middle : _) × e.grown c.args.terms.now middle added × e.refused middle c.enter_row.new.terms) (g.F.RowList.formula c.args.formula.now) c.args.tuple.now (e.rows c.args.terms.now) (e.limit c.args.terms.now)) (sym is) (so_far_memory _ e.rows e.limit e.grown e.refused law.grown_rows law.grown_both (g.F.RowList.formula c.args.formula.now) c.args.tuple.now c.requires.formula c.args.terms.now c.requires.tuple c.enter_row.new.terms (c.loop-n.numbers.items ++ c.in_ok-number.number ∷ []) (c.loop-n.n + 1) more))
    c.from_residual-in_err-push_number.ensures.1

pub loop-n-preserved : goal.loop-n-preserved
loop-n-preserved g c =
    let e = g.E.TermEntry in
    let law = g.met.E.TermEntry in
    let grows = subst (λ (terms : List ℕ). RowGrows (e.grown c.loop-n.terms c.enter_row.new.terms) (g.F.RowList.formula c.args.formula.now) c.args.tuple.now (e.rows c.loop-n.terms) (e.limit c.loop-n.terms) terms c.in_ok-number.number) c.deref.ensures.value c.in_ok-number.ensures.ok in
    subst (λ (terms : List ℕ). RowsSoFar (e.grown c.args.terms.now c.enter_row.new.terms) (g.F.RowList.formula c.args.formula.now) c.args.tuple.now (e.rows c.args.terms.now) (e.limit c.args.terms.now) (e.rows c.enter_row.new.terms) (e.limit c.enter_row.new.terms) terms (c.loop-n.n + 1)) (sym c.in_ok-push_number.ensures)
    (so_far_next _ e.rows e.limit e.grown e.refused law.grown_rows law.grown_both (g.F.RowList.formula c.args.formula.now) c.args.tuple.now c.requires.formula c.args.terms.now c.requires.tuple c.loop-n.terms c.loop-n.numbers.items c.loop-n.n c.loop-n.invariant c.enter_row.new.terms c.in_ok-number.number grows)

pub returns-in_err-number-clause-fault : goal.returns-in_err-number-clause-fault
returns-in_err-number-clause-fault g c =
    let e = g.E.TermEntry in
    let law = g.met.E.TermEntry in
    let stops = subst (λ (terms : List ℕ). StopsRow (c.enter_row.new.terms ≡ c.loop-n.terms) (e.refused c.loop-n.terms c.enter_row.new.terms) (g.F.RowList.formula c.args.formula.now) c.args.tuple.now (e.rows c.loop-n.terms) (e.limit c.loop-n.terms) terms c.in_err-number.field-0.0) c.deref.ensures.value c.in_err-number.ensures.fault in
    err_map _ _ c.from_residual.result
    (λ fault is. subst (StopsRows (e.grown c.args.terms.now c.enter_row.new.terms) (λ added. (middle : _) × e.grown c.args.terms.now middle added × e.refused middle c.enter_row.new.terms) (g.F.RowList.formula c.args.formula.now) c.args.tuple.now (e.rows c.args.terms.now) (e.limit c.args.terms.now)) (sym is)
    (so_far_stopped _ e.rows e.limit e.grown e.refused law.grown_rows law.grown_both (g.F.RowList.formula c.args.formula.now) c.args.tuple.now c.requires.formula c.args.terms.now c.requires.tuple c.loop-n.terms c.loop-n.numbers.items c.loop-n.n c.loop-n.invariant c.enter_row.new.terms c.in_err-number.field-0.0 stops))
    c.from_residual.ensures.1
