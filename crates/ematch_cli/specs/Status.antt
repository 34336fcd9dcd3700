-- What a status is to those outside.
use Rattle.std.specs.Prelude.{ℕ, List, [], codes}
use Rattle.ematch_cli.specs.Listing.{line}
use Rattle.smt_text.specs.declared.fault.TextFault.{TextFault}
use Rattle.smt_text.specs.declared.fault.TextFault.TheVariants as fault
use Rattle.ematch_cli.specs.declared.status.Status.{Status}
use Rattle.ematch_cli.specs.declared.status.Status.TheVariants.{Done, ScriptError, WordsRefused}
use Rattle.ematch_cli.specs.declared.status.Status.TheVariants.{ReadFault, WriteFault, NoMemory}

-- the exit status of the program
abbrev pub code_of : Status → ℕ
code_of Done = 0
code_of ScriptError = 1
code_of WordsRefused = 2
code_of ReadFault = 3
code_of WriteFault = 4
code_of NoMemory = 5

-- the text on the error stream
abbrev pub text_of : Status → List ℕ
text_of Done = []
text_of ScriptError = []
text_of WordsRefused = line (codes "ematch: words refused")
text_of ReadFault = line (codes "ematch: read failed")
text_of WriteFault = line (codes "ematch: write failed")
text_of NoMemory = line (codes "ematch: no memory")

-- the status where a script could not be read on
abbrev pub outside_status : TextFault → Status
outside_status fault.ReadFault = ReadFault
outside_status fault = NoMemory
