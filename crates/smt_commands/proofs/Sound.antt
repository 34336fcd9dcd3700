-- A session stays right.
use Rattle.std.proofs.Common.{◌≡◌, List, Result, Ok, Err, sym, subst, OnErr}
use Rattle.smt_text.specs.Word.{Word}
use Rattle.smt_names.specs.declared.stop.Stop.{Stop}
use Rattle.smt_names.specs.Names.{State}
use Rattle.smt_commands.specs.declared.command.Command.{Command}
use Rattle.smt_commands.specs.Answers.{Answers}
use Rattle.smt_commands.specs.Commands.{elaborate}
use Rattle.smt_commands.specs.SessionLaws.{IsSound, KeepsSound}

-- what answers as is defined keeps the state right, as every command does
pub stays_sound : KeepsSound → (state new : State) (words : List Word) (result : Result Command Stop) → IsSound state → Answers result new (elaborate state words) → OnErr result (new ≡ state) → IsSound new
stays_sound keeps state new words (Ok command) sound answers same = (keeps state words (record { command = command; state = new }) sound answers).0
stays_sound keeps state new words (Err stopped) sound answers same = subst IsSound (sym same) sound
