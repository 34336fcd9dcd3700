-- What a command does, and what is answered to it.
use Rattle.std.specs.Prelude.{◌≡◌, ◌≢◌, ◌⊎◌, ℕ, zero, suc, List, Ok, Err}
use Rattle.em_outside.specs.declared.limits.Limits.{Limits}
use Rattle.smt_text.specs.Word.{Word}
use Rattle.formula_draft.specs.Draft.{Formula}
use Rattle.formula_table.specs.declared.enter_fault.EnterFault.{EnterFault}
use Rattle.formula_table.specs.declared.enter_fault.EnterFault.TheVariants.{Memory}
use Rattle.formula_assert.specs.Assertions.{Assertions, held_of, no_assertions, pushed, popped}
use Rattle.formula_assert.specs.AssertFormula.{AssertsFormula, StopsAssert}
use Rattle.smt_names.specs.Names.{State}
use Rattle.smt_names.specs.declared.syntax_fault.SyntaxFault.{SyntaxFault}
use Rattle.smt_commands.specs.Commands.{Answer, elaborate}
use Rattle.smt_commands.specs.declared.command.Command.{Command}
use Rattle.smt_commands.specs.declared.command.Command.TheVariants as command
use Rattle.search_laws.specs.Path.{first_path}
use Rattle.search_laws.specs.Verdict.{refused, Verdict}
use Rattle.ematch_cli.specs.ErrorLine.{refusal_line, room_line}
use Rattle.ematch_cli.specs.Response.{IsResponse, Remembers}
use Rattle.ematch_cli.specs.RunState.{RunState}
use Rattle.em_words.specs.declared.task.Task.{Task}
use Rattle.em_words.specs.declared.task.Task.TheVariants.{Solve}

-- so many times
abbrev pub repeated : ℕ → (Assertions → Assertions) → Assertions → Assertions
repeated zero change now = now
repeated (suc n) change now = repeated n change (change now)

-- What a command does to the standing assertions: a formula is asserted, levels are opened or closed, or all are
-- forgotten.
abbrev pub Does : Limits → Command → Assertions → Assertions → Type 0
Does limits (command.Assert formula) before after = AssertsFormula formula before after
Does limits (command.Push count) before after = after ≡ repeated count pushed before
Does limits (command.Pop count) before after = after ≡ repeated count popped before
Does limits command.Reset before after = after ≡ no_assertions limits.terms limits.nodes
Does limits command.ResetAssertions before after = after ≡ no_assertions limits.terms limits.nodes
Does limits command.Silent before after = after ≡ before
Does limits command.Unsupported before after = after ≡ before
Does limits command.CheckSat before after = after ≡ before
Does limits (command.GetInfo info) before after = after ≡ before
Does limits command.Exit before after = after ≡ before

-- what a command answers, with the session after it
abbrev pub answered : Command → State → Answer
answered command state = record { command = command; state = state }

-- The words mean the command, which is done and answered by the text; why a check was answered by `unknown` is kept in
-- mind.
pub record Replies (task : Task) (limits : Limits) (before : RunState) (words : List Word) (command : Command)
    (after : RunState) (text : List ℕ) : Type 0 where
  pub elaborated : elaborate before.session words ≡ Ok (answered command after.session)
  pub does : Does limits command before.assertions after.assertions
  pub remembers : Remembers command before.why after.why
  pub responds : IsResponse task command before after text

-- The words assert a formula for which there is no room.
pub record FindsNoRoom (before : RunState) (words : List Word) (fault : EnterFault) : Type 0 where
  pub formula : Formula
  pub session : State
  pub elaborated : elaborate before.session words ≡ Ok (answered (command.Assert formula) session)
  pub after : Assertions
  pub stops : StopsAssert formula before.assertions after fault
  pub is_room : fault ≢ Memory

-- The words ask for a check, and the search of what is asserted, which may have so many rounds, is refused by a limit.
pub record PassesLimit (task : Task) (before : RunState) (words : List Word) (fault : EnterFault) : Type 0 where
  pub rounds : ℕ
  pub searches : task ≡ Solve rounds
  pub session : State
  pub elaborated : elaborate before.session words ≡ Ok (answered command.CheckSat session)
  pub verdict : Verdict rounds (first_path before.assertions.formulas (held_of before.assertions)) (refused fault)

-- The command is refused with this line: as it is read, or because there is no room for what it asserts, or because
-- there is none for an instance in the search that it asks for.
abbrev pub IsRefused : Task → RunState → List Word → List ℕ → Type 0
IsRefused task before words text =
    ((fault : SyntaxFault) × (elaborate before.session words ≡ Err fault) × (text ≡ refusal_line fault))
    ⊎ (((fault : EnterFault) × FindsNoRoom before words fault × (text ≡ room_line words fault))
    ⊎ ((fault : EnterFault) × PassesLimit task before words fault × (text ≡ room_line words fault)))
