-- The defined answer to a script.
use Rattle.std.specs.Prelude.{◌≡◌, ◌≢◌, ◌⊎◌, ℕ, Bool, true, false, List, [], ◌++◌, None}
use Rattle.em_outside.specs.declared.limits.Limits.{Limits}
use Rattle.smt_text.specs.Script.{Script, End, Fault, Command, script_of}
use Rattle.smt_text.specs.declared.byte_fault.ByteFault.{ByteFault}
use Rattle.smt_text.specs.declared.byte_fault.ByteFault.TheVariants.{Unclosed}
use Rattle.smt_names.specs.Names.{at_start}
use Rattle.formula_assert.specs.Assertions.{no_assertions}
use Rattle.smt_commands.specs.declared.command.Command as syntax
use Rattle.smt_commands.specs.declared.command.Command.TheVariants.{Exit}
use Rattle.ematch_cli.specs.ErrorLine.{fault_line}
use Rattle.ematch_cli.specs.Run.{Replies, IsRefused}
use Rattle.ematch_cli.specs.RunState.{RunState, run_state}
use Rattle.em_words.specs.declared.task.Task.{Task}

-- how the answer to some bytes ends: more may follow, or by the end of the script or its `exit`, or by an error
pub data Ending : Type 0 where
  Open : Ending
  Finished : Ending
  Failed : Ending

-- the bytes of an answer, and how it ends
pub record Answer : Type 0 where
  pub bytes : List ℕ
  pub ending : Ending

-- an answer behind these bytes
abbrev pub behind : List ℕ → Answer → Answer
behind bytes answer = record answer { bytes = bytes ++ answer.bytes }

-- the answer that ends so with these bytes
abbrev pub last : List ℕ → Ending → Answer
last text ending = record { bytes = text; ending = ending }

-- the answer that an error with this line ends
abbrev pub failure : List ℕ → Answer
failure text = last text Failed

-- nothing more is answered
abbrev pub silence : Ending → Answer
silence ending = last [] ending

-- the answer at the end of the bytes: where it is not known that no more come, they may go on
abbrev pub at_end : Bool → Answer
at_end true = silence Finished
at_end false = silence Open

-- the answer at a fault of the bytes is its line: where more may come, a command that is not closed yet is none
abbrev pub at_fault : Bool → ByteFault → Answer
at_fault false (Unclosed place) = silence Open
at_fault known fault = failure (fault_line fault)

-- The answer to a script from a state on: the answers to its commands in order, up to the first that is refused, to
-- `exit`, to the first fault of its bytes, or to their end, of which it is known or not whether it is the script's.
unfoldable pub IsAnswer : Task → Limits → (known : Bool) → Script → RunState → Answer → Type 0
IsAnswer task limits known End state answer = answer ≡ at_end known
IsAnswer task limits known (Fault fault) state answer = answer ≡ at_fault known fault
IsAnswer task limits known (Command words rest) state answer =
    ((line : List ℕ) × IsRefused task state words line × (answer ≡ failure line))
    ⊎ (((later : RunState) × (text : List ℕ) × Replies task limits state words Exit later text
    × (answer ≡ last text Finished))
    ⊎ ((command : syntax.Command) × (later : RunState) × (text : List ℕ) × (after : Answer)
    × (command ≢ Exit) × Replies task limits state words command later text
    × IsAnswer task limits known rest later after × (answer ≡ behind text after)))

-- the bytes begin with this front
abbrev pub BeginsWith : List ℕ → List ℕ → Type 0
BeginsWith front bytes = (rest : List ℕ) × (bytes ≡ front ++ rest)

-- A front of what is answered to a script from a state on: there are the replies to its first commands, none of them
-- `exit`, and these bytes are the replies and a front of the reply to the next command, or of the line of the error
-- there. The line that only the end of the bytes makes is begun only where it is known that they end.
unfoldable pub IsAnswerFront : Task → Limits → (known : Bool) → Script → RunState → List ℕ → Type 0
IsAnswerFront task limits known End state bytes = bytes ≡ []
IsAnswerFront task limits known (Fault fault) state bytes = BeginsWith bytes (at_fault known fault).bytes
IsAnswerFront task limits known (Command words rest) state bytes =
    (bytes ≡ [])
    ⊎ (((line : List ℕ) × IsRefused task state words line × BeginsWith bytes line)
    ⊎ (((command : syntax.Command) × (later : RunState) × (text : List ℕ)
    × Replies task limits state words command later text × BeginsWith bytes text)
    ⊎ ((command : syntax.Command) × (later : RunState) × (text : List ℕ) × (more : List ℕ)
    × (command ≢ Exit) × Replies task limits state words command later text
    × IsAnswerFront task limits known rest later more × (bytes ≡ text ++ more))))

-- before the first command
abbrev pub opening : Limits → RunState
opening limits = run_state (at_start limits) (no_assertions limits.terms limits.nodes) None

-- the answer to all the bytes of a script
abbrev pub IsOutput : Task → Limits → List ℕ → Answer → Type 0
IsOutput task limits bytes answer = IsAnswer task limits true (script_of limits bytes) (opening limits) answer

-- the answer to the bytes of a script so far
abbrev pub IsOutputSoFar : Task → Limits → List ℕ → Answer → Type 0
IsOutputSoFar task limits bytes answer = IsAnswer task limits false (script_of limits bytes) (opening limits) answer

-- a front of what is answered to these bytes, of which it is known or not whether they are all of the script's
abbrev pub IsFrontOf : Task → Limits → (known : Bool) → List ℕ → List ℕ → Type 0
IsFrontOf task limits known bytes front =
    IsAnswerFront task limits known (script_of limits bytes) (opening limits) front
