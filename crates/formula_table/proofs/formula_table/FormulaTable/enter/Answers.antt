use Rattle.std.proofs.Common.{[], sym, subst, inl}
use Rattle.formula_table.specs.Entry.{BecomesRow, StopsEntry}
use Rattle.formula_table.proofs.InOrderLemmas.{none_in_order}
use Rattle.formula_table.proofs.EntryLemmas.{err_map}
use Rattle.formula_table.proofs.formula_table.FormulaTable.enter.Goals as goal

pub returns-in_err-nodes-clause-fault : goal.returns-in_err-nodes-clause-fault
returns-in_err-nodes-clause-fault g c =
    let e = g.E.TermEntry in
    let same = c.args.terms.now in
    err_map _ _ c.from_residual.result
    (λ fault is. subst (StopsEntry (e.grown same same) (λ added. (middle : _) × e.grown same middle added × e.refused middle same) c.args.formula.now [] (e.rows same) (e.limit same) c.args.self.now) (sym is)
    (record { added = []; terms = []; grew = inl (g.met.E.TermEntry.grown_none same); enters = none_in_order (BecomesRow c.args.formula.now [] (e.rows same) []) (e.rows same) (e.limit same) }))
    c.from_residual.ensures.1

pub returns-in_err-rows-clause-fault : goal.returns-in_err-rows-clause-fault
returns-in_err-rows-clause-fault g c =
    let e = g.E.TermEntry in
    let same = c.args.terms.now in
    err_map _ _ c.from_residual-in_err-rows.result
    (λ fault is. subst (StopsEntry (e.grown same same) (λ added. (middle : _) × e.grown same middle added × e.refused middle same) c.args.formula.now [] (e.rows same) (e.limit same) c.args.self.now) (sym is)
    (record { added = []; terms = []; grew = inl (g.met.E.TermEntry.grown_none same); enters = none_in_order (BecomesRow c.args.formula.now [] (e.rows same) []) (e.rows same) (e.limit same) }))
    c.from_residual-in_err-rows.ensures.1
