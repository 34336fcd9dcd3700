-- What is answered to a command that is done.
use Rattle.std.specs.Prelude.{◌≡◌, ℕ, Bool, true, false, List, [], ◌++◌, length, codes, Option, Some, None}
use Rattle.std.specs.Fmt.{decimal}
use Rattle.smt_commands.specs.declared.command.Command.{Command}
use Rattle.smt_commands.specs.declared.command.Command.TheVariants as command
use Rattle.smt_commands.specs.declared.info.Info.{Info}
use Rattle.smt_commands.specs.declared.info.Info.TheVariants as info
use Rattle.ematch_cli.specs.Listing.{line, IsListing}
use Rattle.em_printing.specs.Names.{names_of}
use Rattle.formula_assert.specs.Assertions.{Assertions, held_of}
use Rattle.search_laws.specs.Path.{first_path}
use Rattle.search_laws.specs.Verdict.{Ending, unsat, sat, settled, rounds_spent, refused, Verdict}
use Rattle.search_check.specs.declared.why.Why.{Why}
use Rattle.search_check.specs.declared.why.Why.TheVariants.{Settled, RoundsSpent}
use Rattle.ematch_cli.specs.RunState.{RunState}
use Rattle.em_words.specs.declared.task.Task.{Task}
use Rattle.em_words.specs.declared.task.Task.TheVariants.{Matches, Solve}

-- the line `success`, where it is printed
abbrev pub success : Bool → List ℕ
success true = line (codes "success")
success false = []

abbrev pub unsupported : List ℕ
unsupported = line (codes "unsupported")

-- why the last check was answered by `unknown`, where it was
abbrev pub reason_text : Option Why → List ℕ
reason_text None = unsupported
reason_text (Some Settled) = line (codes "(:reason-unknown incomplete)")
reason_text (Some RoundsSpent) = line (codes "(:reason-unknown rounds)")

-- an information, where so many levels are open, and this is why the last check was answered by `unknown`, if it was
abbrev pub info_text : Info → ℕ → Option Why → List ℕ
info_text info.Name levels why = line (codes "(:name \"ematch\")")
info_text info.Version levels why = line (codes "(:version \"1.0\")")
info_text info.Authors levels why = line (codes "(:authors \"ematch\")")
info_text info.ErrorBehavior levels why = line (codes "(:error-behavior immediate-exit)")
info_text info.Levels levels why = line (codes "(:assertion-stack-levels " ++ decimal levels ++ codes ")")
info_text info.ReasonUnknown levels why = reason_text why
info_text info.Other levels why = unsupported

-- the text is the line of how a search ends; where an instance is past a limit there is none
abbrev pub HasLine : Ending → List ℕ → Type 0
HasLine unsat text = text ≡ line (codes "unsat")
HasLine (sat last) text = text ≡ line (codes "sat")
HasLine (settled last) text = text ≡ line (codes "unknown")
HasLine (rounds_spent last) text = text ≡ line (codes "unknown")
HasLine (refused fault) text = ⊥

-- why a search ends open, where it does
abbrev pub why_of : Ending → Option Why
why_of unsat = None
why_of (sat last) = None
why_of (settled last) = Some Settled
why_of (rounds_spent last) = Some RoundsSpent
why_of (refused fault) = None

-- the search of what is asserted, with so many rounds, ends; its line says how, and why where it ends open
pub record IsSearched (rounds : ℕ) (now : Assertions) (text : List ℕ) (why : Option Why) : Type 0 where
  pub ending : Ending
  pub verdict : Verdict rounds (first_path now.formulas (held_of now)) ending
  pub has_line : HasLine ending text
  pub why_is : why ≡ why_of ending

-- what a task answers to `check-sat`: the listing, or how a search ends, and why it is open is known from then on
abbrev pub IsCheckResponse : Task → RunState → List ℕ → Type 0
IsCheckResponse Matches after text = IsListing (names_of after.session) after.assertions.graph.standing text
    × (after.why ≡ None)
IsCheckResponse (Solve rounds) after text = IsSearched rounds after.assertions text after.why

-- of a check its answer says why it was answered by `unknown`; `reset` forgets it, and each other command keeps what
-- was known
abbrev pub Remembers : Command → Option Why → Option Why → Type 0
Remembers command.CheckSat before after = Unit {0}
Remembers command.Reset before after = after ≡ None
Remembers command.Unsupported before after = after ≡ before
Remembers (command.GetInfo info) before after = after ≡ before
Remembers command.Silent before after = after ≡ before
Remembers (command.Assert formula) before after = after ≡ before
Remembers (command.Push count) before after = after ≡ before
Remembers (command.Pop count) before after = after ≡ before
Remembers command.ResetAssertions before after = after ≡ before
Remembers command.Exit before after = after ≡ before

-- `success` is printed as the option stands after the command, but at `reset` as it stood before
abbrev pub IsResponse : Task → Command → RunState → RunState → List ℕ → Type 0
IsResponse task command.Unsupported before after text = text ≡ unsupported
IsResponse task command.CheckSat before after text = IsCheckResponse task after text
IsResponse task (command.GetInfo info) before after text =
    text ≡ info_text info (length after.session.levels) after.why
IsResponse task command.Reset before after text = text ≡ success before.session.prints_success
IsResponse task command.Silent before after text = text ≡ success after.session.prints_success
IsResponse task (command.Assert formula) before after text = text ≡ success after.session.prints_success
IsResponse task (command.Push count) before after text = text ≡ success after.session.prints_success
IsResponse task (command.Pop count) before after text = text ≡ success after.session.prints_success
IsResponse task command.ResetAssertions before after text = text ≡ success after.session.prints_success
IsResponse task command.Exit before after text = text ≡ success after.session.prints_success
