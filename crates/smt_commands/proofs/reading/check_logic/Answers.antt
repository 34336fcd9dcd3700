use Rattle.std.proofs.lemmas.Result.{err_from_is_err_and}
use Rattle.smt_terms.specs.Cursor.{word_at, trees_from}
use Rattle.smt_terms.specs.Reading.{exactly}
use Rattle.smt_commands.specs.Commands.{symbol_first}
use Rattle.smt_commands.proofs.Steps.{refused_first, checks_after}
use Rattle.smt_commands.proofs.reading.check_logic.Goals as goal

pub returns-in_err-check_exactly : goal.returns-in_err-check_exactly
returns-in_err-check_exactly c =
    let p = err_from_is_err_and c.from_residual.result c.from_residual.ensures.1 in rw (p.1, p.2)
    (λ draft. refused_first (λ (_ : Unit {0}). symbol_first c.args.head (trees_from c.args.tree.now c.args.i)) c.in_err-check_exactly.field-0.0 (exactly 1 c.args.head (trees_from c.args.tree.now c.args.i) draft) (c.in_err-check_exactly.ensures draft))

pub returns : goal.returns
returns c = checks_after (λ (_ : Unit {0}). symbol_first c.args.head (trees_from c.args.tree.now c.args.i)) c.check_symbol.result (exactly 1 c.args.head (trees_from c.args.tree.now c.args.i)) _ (word_at c.args.tree.now c.args.i) c.in_ok-check_exactly.ensures c.check_symbol.ensures
