use Rattle.std.proofs.Common.{◌∙◌, ap, refl, Ok}
use Rattle.std.proofs.lemmas.Result.{err_from_is_err_and}
use Rattle.smt_terms.specs.Cursor.{word_at, trees_from}
use Rattle.smt_text.specs.Word.{Word}
use Rattle.smt_commands.specs.declared.command.Command.TheVariants.{GetInfo}
use Rattle.smt_commands.specs.Commands.{asked_form, answer, info_of}
use Rattle.smt_commands.proofs.Steps.{command_refused, command_after, draft_of, same_answer}
use Rattle.smt_commands.proofs.reading.get_info.Goals as goal

pub returns-in_err-check_asked : goal.returns-in_err-check_asked
returns-in_err-check_asked c =
    let p = err_from_is_err_and c.from_residual.result c.from_residual.ensures.1 in rw (p.1, p.2)
    (command_refused c.args.state.now (asked_form c.args.head (trees_from c.args.tree.now c.args.i)) (λ (key : Word). answer c.args.state.now (GetInfo (info_of key.text))) c.in_err-check_asked.field-0.0 (c.in_err-check_asked.ensures (draft_of c.args.state.now)))

pub returns : goal.returns
returns c = command_after c.args.state.now (asked_form c.args.head (trees_from c.args.tree.now c.args.i)) (λ (key : Word). answer c.args.state.now (GetInfo (info_of key.text))) (Ok (GetInfo c.info_named-info.result)) c.args.state.now _ (c.in_ok-check_asked.ensures (draft_of c.args.state.now))
    (same_answer (GetInfo c.info_named-info.result) (GetInfo (info_of (word_at c.args.tree.now c.args.i).text)) c.args.state.now c.args.state.now (ap GetInfo (c.info_named-info.ensures ∙ ap info_of c.text_at.ensures)) refl)
