use Rattle.std.proofs.lemmas.Result.{err_from_is_err_and}
use Rattle.smt_terms.specs.Cursor.{trees_from}
use Rattle.smt_terms.specs.Reading.{at_most}
use Rattle.smt_commands.specs.Commands.{levels_asked}
use Rattle.smt_commands.proofs.Steps.{refused_first, makes_after}
use Rattle.smt_commands.proofs.levels.level_count_at.Goals as goal

pub returns-in_err-check_at_most : goal.returns-in_err-check_at_most
returns-in_err-check_at_most c draft =
    let p = err_from_is_err_and c.from_residual.result c.from_residual.ensures.1 in rw (p.1, p.2)
    (refused_first (λ (_ : Unit {0}). levels_asked c.args.head (trees_from c.args.tree.now c.args.i)) c.in_err-check_at_most.field-0.0 (at_most 1 (trees_from c.args.tree.now c.args.i) draft) (c.in_err-check_at_most.ensures draft))

pub returns : goal.returns
returns c draft = makes_after (λ (_ : Unit {0}). levels_asked c.args.head (trees_from c.args.tree.now c.args.i)) c.levels_asked_at.result (at_most 1 (trees_from c.args.tree.now c.args.i)) _ draft draft draft (c.in_ok-check_at_most.ensures draft) (c.levels_asked_at.ensures draft)
