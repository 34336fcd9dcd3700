-- What a call leaves that answers a command.
use Rattle.std.specs.Prelude.{◌≡◌, ◌≢◌, ◌↔◌, IsTrue, Bool, List, ℕ, codes, Option, Some, None}
use Rattle.em_outside.specs.declared.limits.Limits.{Limits}
use Rattle.smt_text.specs.Word.{Word}
use Rattle.smt_commands.specs.declared.command.Command.{Command}
use Rattle.smt_commands.specs.declared.command.Command.TheVariants.{Assert, CheckSat, Exit}
use Rattle.formula_draft.specs.Draft.{Formula}
use Rattle.formula_table.specs.declared.enter_fault.EnterFault.{EnterFault}
use Rattle.formula_table.specs.declared.enter_fault.EnterFault.TheVariants as enter
use Rattle.formula_assert.specs.Assertions.{Assertions, held_of}
use Rattle.formula_assert.specs.AssertFormula.{StopsAssert}
use Rattle.smt_names.specs.declared.stop.Stop.{Stop}
use Rattle.smt_names.specs.declared.stop.Stop.TheVariants as stop
use Rattle.search_laws.specs.Path.{first_path}
use Rattle.search_laws.specs.Verdict.{refused, Verdict}
use Rattle.search_check.specs.declared.outcome.Outcome.{Outcome}
use Rattle.search_check.specs.declared.outcome.Outcome.TheVariants.{Unsat, Sat, Unknown}
use Rattle.search_check.specs.declared.why.Why.{Why}
use Rattle.ematch_cli.specs.ErrorLine.{refusal_line, room_line}
use Rattle.ematch_cli.specs.Listing.{line}
use Rattle.ematch_cli.specs.Response.{IsResponse, Remembers}
use Rattle.ematch_cli.specs.Run.{Replies, IsRefused}
use Rattle.ematch_cli.specs.RunState.{RunState}
use Rattle.ematch_cli.specs.declared.reply.Reply.{Reply}
use Rattle.em_words.specs.declared.task.Task.{Task}
use Rattle.em_words.specs.declared.task.Task.TheVariants.{Matches, Solve}
use Rattle.ematch_cli.specs.declared.unanswered.Unanswered.{Unanswered}
use Rattle.ematch_cli.specs.declared.unanswered.Unanswered.TheVariants.{Refused, Memory}

-- the words were answered by the reply, which ends the script exactly where they are those of `exit`
pub record IsReply (task : Task) (limits : Limits) (before : RunState) (words : List Word) (after : RunState)
    (reply : Reply) : Type 0 where
  pub command : Command
  pub replies : Replies task limits before words command after reply.text.items
  pub exits : IsTrue reply.exits ↔ (command ≡ Exit)

-- the words are refused with the line, or memory was, which is free
abbrev pub IsUnanswered : Task → RunState → List Word → Unanswered → Type 0
IsUnanswered task before words (Refused line) = IsRefused task before words line.items
IsUnanswered task before words Memory = Unit {0}

-- the line says that there is no room for the formula, or memory was refused
abbrev pub FindsNoRoomFor : Formula → Assertions → List Word → Unanswered → Type 0
FindsNoRoomFor formula before words (Refused line) =
    (fault : EnterFault) × (after : Assertions) × StopsAssert formula before after fault
    × (fault ≢ enter.Memory) × (line.items ≡ room_line words fault)
FindsNoRoomFor formula before words Memory = Unit {0}

-- so it is with the command, where it asserts a formula
abbrev pub IsUndone : Command → Assertions → List Word → Unanswered → Type 0
IsUndone (Assert formula) before words unanswered = FindsNoRoomFor formula before words unanswered
IsUndone command before words unanswered = unanswered ≡ Memory

-- the line of how a search ended
abbrev pub outcome_line : Outcome → List ℕ
outcome_line Unsat = line (codes "unsat")
outcome_line (Sat kept) = line (codes "sat")
outcome_line (Unknown why kept) = line (codes "unknown")

-- why it ended open, where it did
abbrev pub outcome_why : Outcome → Option Why
outcome_why Unsat = None
outcome_why (Sat kept) = None
outcome_why (Unknown why kept) = Some why

-- the line says which limit refuses the search of what is asserted, with so many rounds, or memory was refused
abbrev pub IsUnsearched : ℕ → Assertions → List Word → Unanswered → Type 0
IsUnsearched rounds now words (Refused line) =
    (fault : EnterFault) × Verdict rounds (first_path now.formulas (held_of now)) (refused fault)
    × (line.items ≡ room_line words fault)
IsUnsearched rounds now words Memory = Unit {0}

-- so it is with a check, where it is answered by a search
abbrev pub IsUnchecked : Task → Assertions → List Word → Unanswered → Type 0
IsUnchecked Matches now words unanswered = unanswered ≡ Memory
IsUnchecked (Solve rounds) now words unanswered = IsUnsearched rounds now words unanswered

-- so it is with the command, where it asks for a check
abbrev pub IsUntold : Task → Command → Assertions → List Word → Unanswered → Type 0
IsUntold task CheckSat now words unanswered = IsUnchecked task now words unanswered
IsUntold task command now words unanswered = unanswered ≡ Memory

-- A command that was done is answered by the text, where `success` was printed before it or not: of what is known only
-- why the last check was answered by `unknown` may change.
pub record Tells (task : Task) (command : Command) (prints : Bool) (before after : RunState) (text : List ℕ)
    : Type 0 where
  pub session_is : after.session ≡ before.session
  pub assertions_are : after.assertions ≡ before.assertions
  pub remembers : Remembers command before.why after.why
  pub responds : (first : RunState) → first.session.prints_success ≡ prints →
      IsResponse task command first after text

-- the line of a refusal, or memory was refused
abbrev pub IsUnread : Stop → Unanswered → Type 0
IsUnread stop.Memory unanswered = unanswered ≡ Memory
IsUnread (stop.Refused fault) (Refused line) = line.items ≡ refusal_line fault
IsUnread (stop.Refused fault) Memory = Unit {0}
