-- What calls answer that read commands.
use Rattle.std.specs.Prelude.{◌≡◌, ℕ, List, Result, Ok, Err}
use Rattle.smt_text.specs.Word.{Word}
use Rattle.formula_draft.specs.Draft.{Draft}
use Rattle.smt_names.specs.Making.{Making}
use Rattle.smt_terms.specs.Reading.{Listed}
use Rattle.smt_terms.specs.Cursor.{word_at, trees_from}
use Rattle.smt_names.specs.declared.stop.Stop.{Stop}
use Rattle.smt_names.specs.declared.syntax_fault.SyntaxFault.{SyntaxFault}
use Rattle.smt_names.specs.Makes.{Refuses}
use Rattle.smt_names.specs.Names.{State}
use Rattle.smt_commands.specs.declared.command.Command.{Command}
use Rattle.smt_commands.specs.Commands.{Answer}

-- the command is answered as is defined, and this is the state after it, or it is refused so, or memory was, which is
-- free
abbrev pub Answers : Result Command Stop → (new : State) → Result Answer SyntaxFault → Type 0
Answers (Ok command) new defined = defined ≡ Ok (record { command = command; state = new })
Answers (Err stopped) new defined = Refuses stopped defined

-- a list comes next, in which the trees from this place on stand
abbrev pub HasList : List Word → ℕ → Result ℕ Stop → Making Listed → Type 0
HasList words i (Ok inner) making = (draft : Draft) → making draft
    ≡ Ok (record { paren = word_at words i; inner = trees_from words inner }, draft)
HasList words i (Err stopped) making = (draft : Draft) → Refuses stopped (making draft)
