use Rattle.std.proofs.Common.{refl, Ok}
use Rattle.std.proofs.lemmas.Result.{err_from_is_err_and}
use Rattle.smt_terms.specs.Cursor.{trees_from}
use Rattle.smt_commands.specs.declared.command.Command.TheVariants.{Unsupported}
use Rattle.smt_commands.specs.Commands.{plain_value, answer}
use Rattle.smt_commands.proofs.Steps.{command_refused, command_after, draft_of}
use Rattle.smt_commands.proofs.declaring.set_other.Goals as goal

pub returns-in_err-check_plain_value : goal.returns-in_err-check_plain_value
returns-in_err-check_plain_value c =
    let p = err_from_is_err_and c.from_residual.result c.from_residual.ensures.1 in rw (p.1, p.2)
    (command_refused c.args.state.now (plain_value (trees_from c.args.tree.now c.args.i)) (λ (_ : Unit {0}). answer c.args.state.now Unsupported) c.in_err-check_plain_value.field-0.0 (c.in_err-check_plain_value.ensures (draft_of c.args.state.now)))

pub returns : goal.returns
returns c = command_after c.args.state.now (plain_value (trees_from c.args.tree.now c.args.i)) (λ (_ : Unit {0}). answer c.args.state.now Unsupported) (Ok Unsupported) c.args.state.now _ (c.in_ok-check_plain_value.ensures (draft_of c.args.state.now)) refl
