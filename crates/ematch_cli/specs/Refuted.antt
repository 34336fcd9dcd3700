-- What `unsat` tells of a script.
use Rattle.std.specs.Prelude.{ℕ, List, codes}
use Rattle.em_outside.specs.declared.limits.Limits.{Limits}
use Rattle.smt_text.specs.Word.{Word}
use Rattle.smt_commands.specs.declared.command.Command.{Command}
use Rattle.graph_meaning.specs.Standing.{terms_of}
use Rattle.formula_assert.specs.Assertions.{Assertions}
use Rattle.search_laws.specs.Pairs.{AreRefutedByInstances}
use Rattle.em_words.specs.declared.task.Task.{Task}
use Rattle.em_words.specs.declared.task.Task.TheVariants.{Solve}
use Rattle.ematch_cli.specs.Listing.{line}
use Rattle.ematch_cli.specs.Output.{opening}
use Rattle.ematch_cli.specs.Response.{IsCheckResponse}
use Rattle.ematch_cli.specs.Run.{Replies}
use Rattle.ematch_cli.specs.RunState.{RunState}

-- the state comes about from that before the first command, by commands that are answered one after another
pub data ComesAbout (task : Task) (limits : Limits) : RunState → Type 0 where
  at_first : ComesAbout task limits (opening limits)
  by_command : {now later : RunState} {words : List Word} {command : Command} {text : List ℕ} →
      ComesAbout task limits now → Replies task limits now words command later text → ComesAbout task limits later

-- finitely many instances of foralls refute all that is asserted
abbrev pub IsRefutable : Assertions → Type 0
IsRefutable now = AreRefutedByInstances now.formulas (terms_of now.graph.standing) now.asserted

-- `unsat` is answered only where finitely many instances of foralls refute all that is asserted, however many rounds
-- the search may have
abbrev pub UnsatIsRight : Type 0
UnsatIsRight = (rounds : ℕ) (limits : Limits) (now : RunState) → ComesAbout (Solve rounds) limits now →
    IsCheckResponse (Solve rounds) now (line (codes "unsat")) → IsRefutable now.assertions
