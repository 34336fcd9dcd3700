use Rattle.std.proofs.Common.{refl, Ok}
use Rattle.std.proofs.lemmas.Result.{err_from_is_err_and}
use Rattle.smt_terms.specs.Cursor.{trees_from}
use Rattle.smt_commands.specs.declared.command.Command.TheVariants.{Silent}
use Rattle.smt_commands.specs.Commands.{info_form, silent}
use Rattle.smt_commands.proofs.Steps.{command_refused, command_after, draft_of}
use Rattle.smt_commands.proofs.reading.set_info.Goals as goal

pub returns-in_err-check_info : goal.returns-in_err-check_info
returns-in_err-check_info c =
    let p = err_from_is_err_and c.from_residual.result c.from_residual.ensures.1 in rw (p.1, p.2)
    (command_refused c.args.state.now (info_form c.args.head (trees_from c.args.tree.now c.args.i)) (λ (_ : Unit {0}). silent c.args.state.now) c.in_err-check_info.field-0.0 (c.in_err-check_info.ensures (draft_of c.args.state.now)))

pub returns : goal.returns
returns c = command_after c.args.state.now (info_form c.args.head (trees_from c.args.tree.now c.args.i)) (λ (_ : Unit {0}). silent c.args.state.now) (Ok Silent) c.args.state.now _ (c.in_ok-check_info.ensures (draft_of c.args.state.now)) refl
