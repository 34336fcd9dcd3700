-- What a command comes to.
use Rattle.std.proofs.Common.{◌≡◌, inl, inr, List, ℕ, Ok, refl, sym, subst, ◌∙◌, ap}
use Rattle.em_outside.specs.declared.limits.Limits.{Limits}
use Rattle.smt_text.specs.Word.{Word}
use Rattle.smt_names.specs.Names.{State}
use Rattle.smt_names.specs.declared.stop.Stop.{Stop}
use Rattle.smt_names.specs.declared.stop.Stop.TheVariants as stop
use Rattle.smt_names.specs.Makes.{Refuses}
use Rattle.smt_commands.specs.Commands.{elaborate}
use Rattle.smt_commands.specs.declared.command.Command.{Command}
use Rattle.smt_commands.specs.declared.command.Command.TheVariants as command
use Rattle.formula_assert.specs.Assertions.{Assertions}
use Rattle.em_words.specs.declared.task.Task.{Task}
use Rattle.em_words.specs.declared.task.Task.TheVariants.{Matches, Solve}
use Rattle.ematch_cli.specs.Reply.{IsUnanswered, IsUndone, IsUntold, IsUnread, Tells}
use Rattle.ematch_cli.specs.Run.{Does, Replies, answered}
use Rattle.ematch_cli.specs.RunState.{RunState, run_state}
use Rattle.ematch_cli.specs.declared.unanswered.Unanswered.{Unanswered}
use Rattle.ematch_cli.specs.declared.unanswered.Unanswered.TheVariants.{Refused, Memory}

module _ (task : Task) (before : RunState) (words : List Word) where
  -- memory was refused
  for_memory : (unanswered : Unanswered) → unanswered ≡ Memory → IsUnanswered task before words unanswered
  for_memory unanswered is = subst (IsUnanswered task before words) (sym is) tt

  -- it is refused where it is read
  pub unread : (stopped : Stop) (unanswered : Unanswered) → Refuses stopped (elaborate before.session words) → IsUnread stopped unanswered → IsUnanswered task before words unanswered
  unread stop.Memory unanswered refuses is = for_memory unanswered is
  unread (stop.Refused fault) (Refused line) refuses is = inl (fault, refuses, is)
  unread (stop.Refused fault) Memory refuses is = tt

  -- there is no room for what it asserts
  pub undone : (what : Command) (session : State) (unanswered : Unanswered) → elaborate before.session words ≡ Ok (answered what session) → IsUndone what before.assertions words unanswered → IsUnanswered task before words unanswered
  undone (command.Assert formula) session Memory elaborated is = tt
  undone (command.Assert formula) session (Refused line) elaborated (fault, after, stops, is_room, is) =
      inr (inl (fault, record { formula = formula; session = session; elaborated = elaborated; after = after; stops = stops; is_room = is_room }, is))
  undone command.CheckSat session unanswered elaborated is = for_memory unanswered is
  undone (command.GetInfo info) session unanswered elaborated is = for_memory unanswered is
  undone command.Unsupported session unanswered elaborated is = for_memory unanswered is
  undone command.Reset session unanswered elaborated is = for_memory unanswered is
  undone command.Silent session unanswered elaborated is = for_memory unanswered is
  undone (command.Push count) session unanswered elaborated is = for_memory unanswered is
  undone (command.Pop count) session unanswered elaborated is = for_memory unanswered is
  undone command.ResetAssertions session unanswered elaborated is = for_memory unanswered is
  undone command.Exit session unanswered elaborated is = for_memory unanswered is

-- the search that it asks for is refused by a limit
pub untold : (task : Task) (limits : Limits) (before : RunState) (words : List Word) (what : Command) (session : State) (now : Assertions) (unanswered : Unanswered) → elaborate before.session words ≡ Ok (answered what session)
    → Does limits what before.assertions now → IsUntold task what now words unanswered → IsUnanswered task before words unanswered
untold Matches limits before words command.CheckSat session now unanswered elaborated does is = for_memory Matches before words unanswered is
untold (Solve rounds) limits before words command.CheckSat session now Memory elaborated does is = tt
untold (Solve rounds) limits before words command.CheckSat session now (Refused line) elaborated does (fault, verdict, is) =
    inr (inr (fault, record { rounds = rounds; searches = refl; session = session; elaborated = elaborated; verdict = rw does at verdict }, is))
untold task limits before words (command.Assert formula) session now unanswered elaborated does is = for_memory task before words unanswered is
untold task limits before words (command.GetInfo info) session now unanswered elaborated does is = for_memory task before words unanswered is
untold task limits before words command.Unsupported session now unanswered elaborated does is = for_memory task before words unanswered is
untold task limits before words command.Reset session now unanswered elaborated does is = for_memory task before words unanswered is
untold task limits before words command.Silent session now unanswered elaborated does is = for_memory task before words unanswered is
untold task limits before words (command.Push count) session now unanswered elaborated does is = for_memory task before words unanswered is
untold task limits before words (command.Pop count) session now unanswered elaborated does is = for_memory task before words unanswered is
untold task limits before words command.ResetAssertions session now unanswered elaborated does is = for_memory task before words unanswered is
untold task limits before words command.Exit session now unanswered elaborated does is = for_memory task before words unanswered is

-- it is done and answered
pub told : (task : Task) (limits : Limits) (before after : RunState) (words : List Word) (what : Command) (session : State) (now : Assertions) (text : List ℕ) → elaborate before.session words ≡ Ok (answered what session) → Does limits what before.assertions now
    → Tells task what before.session.prints_success (run_state session now before.why) after text → Replies task limits before words what after text
told task limits before after words what session now text elaborated does tells = record {
  elaborated = elaborated ∙ ap (λ (s : State). Ok (answered what s)) (sym tells.session_is);
  does = subst (Does limits what before.assertions) (sym tells.assertions_are) does;
  remembers = tells.remembers;
  responds = tells.responds before refl;
}
