-- How a run ends that has an error to tell.
use Rattle.std.specs.Prelude.{◌≡◌, ◌≢◌, ◌⊎◌, ℕ, List, Option}
use Rattle.em_outside.specs.Bytes.{Appended}
use Rattle.ematch_cli.specs.Headline.{WroteFront}
use Rattle.ematch_cli.specs.declared.status.Status.{Status}
use Rattle.ematch_cli.specs.declared.status.Status.TheVariants.{ScriptError, WriteFault, NoMemory}

-- The error's line was written whole, or a front of it, where a write failed or memory for the line was refused.
pub record WritesError (line : List ℕ) (old new : Option (List ℕ)) (status : Status) : Type 0 where
  pub is : (status ≡ ScriptError) ⊎ ((status ≡ WriteFault) ⊎ (status ≡ NoMemory))
  pub whole : status ≡ ScriptError → Appended old new line
  pub front : status ≢ ScriptError → WroteFront old new line
