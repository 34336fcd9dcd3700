use Rattle.std.proofs.Common.{[], length, sym, subst, ◌∙◌, inl}
use Rattle.formula_table.specs.Entry.{BecomesRow}
use Rattle.formula_table.specs.EntryInside.{StopsRows}
use Rattle.formula_table.proofs.InOrderLemmas.{none_in_order}
use Rattle.formula_table.proofs.EntryLemmas.{err_map}
use Rattle.formula_table.proofs.InstanceLemmas.{marks_of_all}
use Rattle.formula_table.proofs.enter_body.enter_body_rows.Goals as goal

pub returns-in_err-marks-clause-fault : goal.returns-in_err-marks-clause-fault
returns-in_err-marks-clause-fault g c =
    let e = g.E.TermEntry in
    let same = c.args.terms.now in
    err_map _ _ c.from_residual.result
    (λ fault is. subst (StopsRows (e.grown same same) (λ added. (middle : _) × e.grown same middle added × e.refused middle same) c.args.body.now c.args.tuple.now (e.rows same) (e.limit same)) (sym is)
    (record { added = []; terms = []; grew = inl (g.met.E.TermEntry.grown_none same); enters = none_in_order (BecomesRow c.args.body.now c.args.tuple.now (e.rows same) []) (e.rows same) (e.limit same) }))
    c.from_residual.ensures.1

pub enter_rows-requires-clause-reached : goal.enter_rows-requires-clause-reached
enter_rows-requires-clause-reached g c = marks_of_all (length c.args.tuple.now) c.args.body.now c.requires.formula c.requires.compact c.row_count.result c.row_count.ensures c.deref.result.now (c.deref.ensures.value ∙ c.in_ok-marks.ensures)
