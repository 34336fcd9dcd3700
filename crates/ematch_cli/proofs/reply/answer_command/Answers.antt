use Rattle.std.proofs.Common.{Bool, sym, subst}
use Rattle.std.proofs.lemmas.Result.{err_from_is_err_and}
use Rattle.formula_assert.specs.Exactly.{AreExact}
use Rattle.formula_assert.specs.Tables.{AreTables}
use Rattle.ematch_cli.specs.Reply.{IsUnanswered, Tells}
use Rattle.ematch_cli.specs.Run.{Replies}
use Rattle.ematch_cli.specs.RunState.{RunState, run_state}
use Rattle.ematch_cli.proofs.Answering.{unread, undone, untold, told}
use Rattle.ematch_cli.proofs.OneAnswer.{does_exact}
use Rattle.ematch_cli.proofs.reply.answer_command.Goals as goal

pub returns-in-Err-clause-refused : goal.returns-in-Err-clause-refused
returns-in-Err-clause-refused g c =
    subst (λ (before : RunState). IsUnanswered c.args.task before c.args.tree.now c.unread.result) c.situation.view_is
    (unread c.args.task (run_state c.situation.inside.session c.situation.inside.stack c.situation.inside.why) c.args.tree.now c.in-Err.stop c.unread.result c.in-Err.ensures.answer c.unread.ensures)

pub returns-in-Err-perform-clause-refused : goal.returns-in-Err-perform-clause-refused
returns-in-Err-perform-clause-refused g c =
    subst (λ (before : RunState). IsUnanswered c.args.task before c.args.tree.now c.in-Err-perform.unanswered) c.situation.view_is
    (undone c.args.task (run_state c.situation.inside.session c.situation.inside.stack c.situation.inside.why) c.args.tree.now c.in-Ok.command c.command.new.self c.in-Err-perform.unanswered c.in-Ok.ensures.answer c.in-Err-perform.ensures.refused)

pub respond-requires : goal.respond-requires
respond-requires g c =
    let before = c.situation.inside.stack in
    let tables : AreTables before = subst (λ (now : RunState). AreTables now.assertions) (sym c.situation.view_is) c.requires.tables in
    let exact : AreExact before = subst (λ (now : RunState). AreExact now.assertions) (sym c.situation.view_is) c.requires.exact in
    (does_exact c.args.limits.now c.run_law.ensures.exact c.in-Ok.command before c.perform.new.stack tables exact c.in-Ok-perform.ensures.ok).present

pub returns-in_err-text-in-Ok-perform-clause-refused : goal.returns-in_err-text-in-Ok-perform-clause-refused
returns-in_err-text-in-Ok-perform-clause-refused g c =
    let stopped = c.in_err-text-in-Ok-perform.field-0.0 in
    let p = err_from_is_err_and c.from_residual.result c.from_residual.ensures.1 in
    rw (p.1, p.2)
    (subst (λ (before : RunState). IsUnanswered c.args.task before c.args.tree.now stopped) c.situation.view_is
    (untold c.args.task c.args.limits.now (run_state c.situation.inside.session c.situation.inside.stack c.situation.inside.why) c.args.tree.now c.in-Ok.command c.command.new.self c.perform.new.stack stopped
    c.in-Ok.ensures.answer c.in-Ok-perform.ensures.ok c.in_err-text-in-Ok-perform.ensures.refused))

pub returns-clause-ok : goal.returns-clause-ok
returns-clause-ok g c =
    let text = c.in_ok-text-in-Ok-perform.text.items in
    let between = run_state c.command.new.self c.perform.new.stack c.situation.inside.why in
    record {
      command = c.in-Ok.command;
      replies =
          subst (λ (before : RunState). Replies c.args.task c.args.limits.now before c.args.tree.now c.in-Ok.command c.respond.new.situation text) c.situation.view_is
          (told c.args.task c.args.limits.now (run_state c.situation.inside.session c.situation.inside.stack c.situation.inside.why) c.respond.new.situation c.args.tree.now c.in-Ok.command c.command.new.self c.perform.new.stack text
          c.in-Ok.ensures.answer c.in-Ok-perform.ensures.ok
          (subst (λ (prints : Bool). Tells c.args.task c.in-Ok.command prints between c.respond.new.situation text) c.prints_success-prints.ensures c.in_ok-text-in-Ok-perform.ensures.value));
      exits = c.is_exit.ensures;
    }
