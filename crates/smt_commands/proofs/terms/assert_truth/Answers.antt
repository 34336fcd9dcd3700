use Rattle.std.proofs.lemmas.Result.{err_from_is_err_and}
use Rattle.smt_terms.specs.Cursor.{trees_from}
use Rattle.smt_terms.specs.Reading.{exactly}
use Rattle.smt_commands.specs.Commands.{asserted_term}
use Rattle.smt_commands.proofs.Steps.{command_refused, command_after, draft_of}
use Rattle.smt_commands.proofs.terms.assert_truth.Goals as goal

pub returns-in_err-check_exactly : goal.returns-in_err-check_exactly
returns-in_err-check_exactly c =
    let p = err_from_is_err_and c.from_residual.result c.from_residual.ensures.1 in rw (p.1, p.2)
    (command_refused c.args.state.now (exactly 1 c.args.head (trees_from c.args.tree.now c.args.i)) (λ (_ : Unit {0}). asserted_term c.args.state.now c.args.head (trees_from c.args.tree.now c.args.i)) c.in_err-check_exactly.field-0.0 (c.in_err-check_exactly.ensures (draft_of c.args.state.now)))

pub returns : goal.returns
returns c = command_after c.args.state.now (exactly 1 c.args.head (trees_from c.args.tree.now c.args.i)) (λ (_ : Unit {0}). asserted_term c.args.state.now c.args.head (trees_from c.args.tree.now c.args.i)) c.assert_term.result c.args.state.now _ (c.in_ok-check_exactly.ensures (draft_of c.args.state.now)) c.assert_term.ensures
