-- The lines of errors.
use Rattle.std.specs.Prelude.{ℕ, ◌==◌, if◌then◌else◌, List, [], ◌∷◌, ◌++◌, unwrap_or, codes}
use Rattle.std.specs.Fmt.{decimal}
use Rattle.smt_text.specs.ByteFault.{place_of}
use Rattle.smt_text.specs.Word.{Word, first_place}
use Rattle.smt_text.specs.declared.byte_fault.ByteFault.{ByteFault}
use Rattle.smt_text.specs.declared.byte_fault.ByteFault.TheVariants.{BadByte, Unclosed, Stray, TooDeep, TooLong}
use Rattle.smt_text.specs.declared.token.Place.{Place}
use Rattle.smt_names.specs.declared.refusal.Refusal.{Refusal}
use Rattle.smt_names.specs.declared.refusal.Refusal.TheVariants as refusal
use Rattle.smt_names.specs.declared.syntax_fault.SyntaxFault.{SyntaxFault}
use Rattle.formula_table.specs.declared.enter_fault.EnterFault.{EnterFault}
use Rattle.formula_table.specs.declared.enter_fault.EnterFault.TheVariants.{TermsFull, NodesFull, Memory}
use Rattle.smt_commands.specs.Commands.{start}
use Rattle.ematch_cli.specs.Listing.{line}

-- the line of an error at a place, `(error "line L column C: TEXT")`
abbrev pub error_line : Place → List ℕ → List ℕ
error_line place text =
    line (codes "(error \"line " ++ decimal place.line ++ codes " column " ++ decimal place.column
    ++ codes ": " ++ text ++ codes "\")")

-- what is said of a fault of the bytes
abbrev pub fault_text : ByteFault → List ℕ
fault_text (BadByte place) = codes "byte not allowed here"
fault_text (Unclosed place) = codes "the command is not closed"
fault_text (Stray place) = codes "a command must begin with ("
fault_text (TooDeep place) = codes "too many open parentheses"
fault_text (TooLong place) = codes "the script is too long"

-- the line of a fault of the bytes, at its place
abbrev pub fault_line : ByteFault → List ℕ
fault_line fault = error_line (place_of fault) (fault_text fault)

-- each quote (34) stands twice
abbrev pub quoted : List ℕ → List ℕ
quoted [] = []
quoted (b ∷ bytes) = if b == 34 then 34 ∷ 34 ∷ quoted bytes else b ∷ quoted bytes

-- what is said of a refusal that speaks of this name
abbrev pub refusal_text : Refusal → List ℕ → List ℕ
refusal_text refusal.UnknownName name = codes "unknown name " ++ name
refusal_text refusal.AlreadyDeclared name = name ++ codes " is already declared"
refusal_text refusal.WrongArity name = codes "wrong number of arguments of " ++ name
refusal_text refusal.WrongSort name = codes "wrong sort"
refusal_text refusal.BadForm name = codes "not a well-formed command"
refusal_text refusal.NotInProfile name = codes "not supported here"
refusal_text refusal.PatternWithoutVariable name = codes "variable " ++ name ++ codes " is not in the trigger"
refusal_text refusal.PatternIsVariable name = codes "a pattern must not be a variable"
refusal_text refusal.PatternHasConnective name = codes "a pattern must not hold connectives"
refusal_text refusal.TooManyVariables name = codes "too many variables"
refusal_text refusal.TooManyArguments name = codes "too many arguments"
refusal_text refusal.TooManyPatterns name = codes "too many patterns"
refusal_text refusal.PatternTooLarge name = codes "the pattern is too large"
refusal_text refusal.PopTooFar name = codes "pop below the first level"
refusal_text refusal.LevelsFull name = codes "too many levels"
refusal_text refusal.TermsFull name = codes "too many terms"
refusal_text refusal.NodesFull name = codes "too many formula nodes"

-- the line of a command that is refused, at the place of the refusal
abbrev pub refusal_line : SyntaxFault → List ℕ
refusal_line fault = error_line fault.place (refusal_text fault.refusal (quoted fault.name))

-- what is said where there is no room for a formula
abbrev pub room_text : EnterFault → List ℕ
room_text TermsFull = codes "too many terms"
room_text NodesFull = codes "too many formula nodes"
room_text Memory = []

-- the line of an assertion or of a search for which there is no room, at the parenthesis of its command
abbrev pub room_line : List Word → EnterFault → List ℕ
room_line words fault = error_line (unwrap_or (first_place words) start) (room_text fault)
