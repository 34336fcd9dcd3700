use Rattle.std.proofs.Common.{refl, Ok}
use Rattle.std.proofs.lemmas.Result.{err_from_is_err_and}
use Rattle.smt_terms.specs.Cursor.{trees_from}
use Rattle.smt_terms.specs.Reading.{at_most}
use Rattle.smt_commands.specs.Commands.{answer}
use Rattle.smt_commands.proofs.Steps.{command_refused, command_after, draft_of}
use Rattle.smt_commands.proofs.reading.ask.Goals as goal

pub returns-in_err-check_at_most : goal.returns-in_err-check_at_most
returns-in_err-check_at_most c =
    let p = err_from_is_err_and c.from_residual.result c.from_residual.ensures.1 in rw (p.1, p.2)
    (command_refused c.args.state.now (at_most 0 (trees_from c.args.tree.now c.args.i)) (λ (_ : Unit {0}). answer c.args.state.now c.args.command) c.in_err-check_at_most.field-0.0 (c.in_err-check_at_most.ensures (draft_of c.args.state.now)))

pub returns : goal.returns
returns c = command_after c.args.state.now (at_most 0 (trees_from c.args.tree.now c.args.i)) (λ (_ : Unit {0}). answer c.args.state.now c.args.command) (Ok c.args.command) c.args.state.now _ (c.in_ok-check_at_most.ensures (draft_of c.args.state.now)) refl
