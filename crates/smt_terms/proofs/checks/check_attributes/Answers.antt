use Rattle.smt_terms.specs.Reading.{at_least, attributes_after, from}
use Rattle.smt_terms.specs.Cursor.{trees_from}
use Rattle.std.proofs.Common.{false}
use Rattle.std.proofs.lemmas.Result.{err_from_is_err_and}
use Rattle.smt_terms.proofs.CheckLemmas.{attributes_hold, refuses_first}
use Rattle.smt_terms.proofs.checks.check_attributes.Goals as goal

pub returns : goal.returns
returns c = attributes_hold c.check_attributes_after.result c.args.head (trees_from c.args.tree.now c.args.i) (trees_from c.args.tree.now c.behind_one.result) c.behind_one.ensures c.in_ok-check_at_least.ensures c.check_attributes_after.ensures

pub returns-in_err-check_at_least : goal.returns-in_err-check_at_least
returns-in_err-check_at_least c =
    let p = err_from_is_err_and c.from_residual.result c.from_residual.ensures.1 in rw (p.1, p.2)
    (refuses_first c.in_err-check_at_least.field-0.0 (at_least 2 c.args.head (trees_from c.args.tree.now c.args.i)) (λ _. attributes_after false (from 1 (trees_from c.args.tree.now c.args.i))) c.in_err-check_at_least.ensures)
