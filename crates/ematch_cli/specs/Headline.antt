-- What a run leaves outside, by the status that it answers.
use Rattle.std.specs.Prelude.{◌≡◌, ◌≢◌, ◌⊎◌, ℕ, Bool, true, false, List, Option, IfSome}
use Rattle.std.specs.Io.KnownBytes.{Consumes}
use Rattle.em_outside.specs.Bytes.{Appended, Exhausts}
use Rattle.em_outside.specs.Causes.{Rose}
use Rattle.em_outside.specs.declared.limits.Limits.{Limits}
use Rattle.ematch_cli.specs.Status.{text_of}
use Rattle.ematch_cli.specs.Output.{Answer, Ending, Open, Finished, Failed, BeginsWith}
use Rattle.ematch_cli.specs.Output.{IsOutput, IsOutputSoFar, IsFrontOf}
use Rattle.ematch_cli.specs.declared.status.Status.{Status}
use Rattle.ematch_cli.specs.declared.status.Status.TheVariants.{Done, ScriptError, WordsRefused}
use Rattle.ematch_cli.specs.declared.status.Status.TheVariants.{ReadFault, WriteFault, NoMemory}
use Rattle.em_words.specs.declared.task.Task.{Task}

-- a sink gained the whole of such an answer, which ends so
abbrev pub Wrote : Option (List ℕ) → Option (List ℕ) → (Answer → Type 0) → Ending → Type 0
Wrote old new IsIt ending = (answer : Answer) × IsIt answer × (answer.ending ≡ ending) × Appended old new answer.bytes

-- What stands on the output where nothing is read, by the status: the whole answer, which ends as the status says, or
-- one of its fronts.
abbrev pub StandsOf : (Answer → Type 0) → (List ℕ → Type 0) → Option (List ℕ) → Option (List ℕ) → Status → Type 0
StandsOf IsIt IsFront old new Done = Wrote old new IsIt Finished
StandsOf IsIt IsFront old new ScriptError = Wrote old new IsIt Failed
StandsOf IsIt IsFront old new WriteFault = (front : List ℕ) × IsFront front × Appended old new front
StandsOf IsIt IsFront old new NoMemory = (front : List ℕ) × IsFront front × Appended old new front
StandsOf IsIt IsFront old new ReadFault = ⊥
StandsOf IsIt IsFront old new WordsRefused = ⊥

-- a sink gained a front of these bytes
abbrev pub WroteFront : Option (List ℕ) → Option (List ℕ) → List ℕ → Type 0
WroteFront old new bytes = (front : List ℕ) × BeginsWith front bytes × Appended old new front

-- a sink gained a front of what is answered to the bytes taken, of which it is known or not whether they are all
abbrev pub WroteFrontOf : Task → Limits → (known : Bool) → List ℕ → Option (List ℕ) → Option (List ℕ) → Type 0
WroteFrontOf task limits known taken old new =
    (front : List ℕ) × IsFrontOf task limits known taken front × Appended old new front

-- A front of what is answered to the bytes taken was written: as they are so far, or as all, where the input's end
-- was read.
abbrev pub Breaks : Task → Limits → Option (List ℕ) → List ℕ → Option (List ℕ) → Option (List ℕ) → Type 0
Breaks task limits input taken old new =
    WroteFrontOf task limits false taken old new ⊎ (Exhausts input taken ×
    WroteFrontOf task limits true taken old new)

-- The bytes taken end the answer so, whatever comes, or all bytes do, whose end was read; so the output of the whole
-- input was written.
abbrev pub Ends : Task → Limits → Option (List ℕ) → List ℕ → Option (List ℕ) → Option (List ℕ) → Ending → Type 0
Ends task limits input taken old new ending =
    (Wrote old new (IsOutputSoFar task limits taken) ending
    ⊎ (Exhausts input taken × Wrote old new (IsOutput task limits taken) ending))
    × IfSome input (λ all. Wrote old new (IsOutput task limits all) ending)

-- What stands on the output after a run that took these bytes from an input that had some left.
abbrev pub Stands : Task → Limits → Option (List ℕ) → List ℕ → Option (List ℕ) → Option (List ℕ) → Status → Type 0
-- the input was read to its end or to its `exit`, and the whole output written
Stands task limits input taken old new Done = Ends task limits input taken old new Finished
-- the input holds an error, and the whole output was written, of which the error's line is the last
Stands task limits input taken old new ScriptError = Ends task limits input taken old new Failed
-- the commands that are whole in the bytes taken were answered
Stands task limits input taken old new ReadFault = Wrote old new (IsOutputSoFar task limits taken) Open
-- a front was written of the answers to the bytes taken
Stands task limits input taken old new WriteFault = Breaks task limits input taken old new
Stands task limits input taken old new NoMemory = Breaks task limits input taken old new
Stands task limits input taken old new WordsRefused = ⊥

-- the status is none of a refused write or refused memory
abbrev pub IsUndisturbed : Status → Type 0
IsUndisturbed status = (status ≢ WriteFault) × (status ≢ NoMemory)

-- The bytes taken in the run, and what then stands on the output. The status is that of an error wherever the bytes
-- taken hold one, and wherever they do as the whole input and no read failed.
pub record Answers (task : Task) (limits : Limits) (in_old in_new out_old out_new : Option (List ℕ)) (status : Status)
    : Type 0 where
  pub taken : List ℕ
  pub given : Consumes in_old in_new taken
  pub stands : Stands task limits in_old taken out_old out_new status
  pub error_so_far : (answer : Answer) → IsOutputSoFar task limits taken answer → answer.ending ≡ Failed
      → IsUndisturbed status → status ≡ ScriptError
  pub error_at_end : (answer : Answer) → IsOutput task limits taken answer → answer.ending ≡ Failed
      → IsUndisturbed status → status ≢ ReadFault → status ≡ ScriptError

-- the status's text was written whole, or in part where a write failed
abbrev pub Reports : Option (List ℕ) → Option (List ℕ) → ℕ → ℕ → Status → Type 0
Reports old new before now status =
    Appended old new (text_of status) ⊎ (Rose before now × WroteFront old new (text_of status))
