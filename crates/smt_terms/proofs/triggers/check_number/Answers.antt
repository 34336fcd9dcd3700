use Rattle.std.proofs.lemmas.Result.{err_from_is_err_and}
use Rattle.smt_terms.specs.Cursor.{trees_from}
use Rattle.smt_terms.proofs.TriggerLemmas.{number_refused, number_checked}
use Rattle.smt_terms.proofs.triggers.check_number.Goals as goal

pub returns-in_err-check_at_least : goal.returns-in_err-check_at_least
returns-in_err-check_at_least c =
    let p = err_from_is_err_and c.from_residual.result c.from_residual.ensures.1 in rw (p.1, p.2)
    (number_refused c.args.tree.now c.args.i c.args.paren c.in_err-check_at_least.field-0.0 c.in_err-check_at_least.ensures)

pub returns : goal.returns
returns c = number_checked c.args.tree.now c.args.i c.args.paren (trees_from c.args.tree.now c.behind_some.result) c.check_no_more.result c.behind_some.ensures c.in_ok-check_at_least.ensures c.check_no_more.ensures
