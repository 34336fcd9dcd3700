use Rattle.std.proofs.lemmas.Result.{err_from_is_err_and}
use Rattle.smt_terms.specs.Cursor.{word_at, trees_from}
use Rattle.smt_terms.specs.Reading.{exactly}
use Rattle.smt_commands.specs.Commands.{plain_sort}
use Rattle.smt_commands.proofs.Steps.{refused_first, checks_after}
use Rattle.smt_commands.proofs.declaring.check_sort.Goals as goal

pub returns-in_err-check_exactly-clause-check : goal.returns-in_err-check_exactly-clause-check
returns-in_err-check_exactly-clause-check c =
    let p = err_from_is_err_and c.from_residual.result c.from_residual.ensures.1 in rw (p.1, p.2)
    (λ draft. refused_first (λ (_ : Unit {0}). plain_sort c.args.state.now c.args.head (trees_from c.args.tree.now c.args.i)) c.in_err-check_exactly.field-0.0 (exactly 2 c.args.head (trees_from c.args.tree.now c.args.i) draft) (c.in_err-check_exactly.ensures draft))

pub returns-clause-check : goal.returns-clause-check
returns-clause-check c = checks_after (λ (_ : Unit {0}). plain_sort c.args.state.now c.args.head (trees_from c.args.tree.now c.args.i)) c.check_plain_sort.result (exactly 2 c.args.head (trees_from c.args.tree.now c.args.i)) _ (word_at c.args.tree.now c.args.i) c.in_ok-check_exactly.ensures c.check_plain_sort.ensures.check
