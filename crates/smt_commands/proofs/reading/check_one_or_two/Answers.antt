use Rattle.std.proofs.lemmas.Result.{err_from_is_err_and}
use Rattle.smt_terms.specs.Cursor.{trees_from}
use Rattle.smt_terms.specs.Reading.{at_least, at_most}
use Rattle.smt_commands.proofs.Steps.{refused_first, makes_after}
use Rattle.smt_commands.proofs.reading.check_one_or_two.Goals as goal

pub returns-in_err-check_at_least : goal.returns-in_err-check_at_least
returns-in_err-check_at_least c draft =
    let p = err_from_is_err_and c.from_residual.result c.from_residual.ensures.1 in rw (p.1, p.2)
    (refused_first (λ (_ : Unit {0}). at_most 2 (trees_from c.args.tree.now c.args.i)) c.in_err-check_at_least.field-0.0 (at_least 1 c.args.head (trees_from c.args.tree.now c.args.i) draft) (c.in_err-check_at_least.ensures draft))

pub returns : goal.returns
returns c draft = makes_after (λ (_ : Unit {0}). at_most 2 (trees_from c.args.tree.now c.args.i)) c.check_at_most.result (at_least 1 c.args.head (trees_from c.args.tree.now c.args.i)) _ draft draft draft (c.in_ok-check_at_least.ensures draft) (c.check_at_most.ensures draft)
