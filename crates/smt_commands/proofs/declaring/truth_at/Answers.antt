use Rattle.std.proofs.lemmas.Result.{err_from_is_err_and}
use Rattle.smt_terms.specs.Cursor.{trees_from}
use Rattle.smt_commands.specs.Commands.{symbol_first, truth_named}
use Rattle.smt_commands.proofs.Steps.{refused_first, makes_after}
use Rattle.smt_commands.proofs.declaring.truth_at.Goals as goal

pub returns-in_err-check_symbol : goal.returns-in_err-check_symbol
returns-in_err-check_symbol c draft =
    let p = err_from_is_err_and c.from_residual.result c.from_residual.ensures.1 in rw (p.1, p.2)
    (refused_first (truth_named) c.in_err-check_symbol.field-0.0 (symbol_first c.args.missing (trees_from c.args.tree.now c.args.i) draft) (c.in_err-check_symbol.ensures draft))

pub returns : goal.returns
returns c draft = makes_after (truth_named) c.truth_of.result (symbol_first c.args.missing (trees_from c.args.tree.now c.args.i)) _ draft draft draft (c.in_ok-check_symbol.ensures draft) (c.truth_of.ensures draft)
