-- The command line as `clap` builds it.
use Rattle.std.proofs.Common.{◌≡◌, true, List, [], ◌∷◌, Some, refl, codes}
use Rattle.clap.specs.Walk.{Rule, Text}
use Rattle.clap.specs.Simple.{App, Shape, built, is_simple, new_rule}
use Rattle.clap.specs.Faults.{is_simple_and_free}
use Rattle.clap.specs.declared.builder.action.ArgAction.TheVariants.{Set}
use Rattle.clap.specs.declared.builder.value_parser.ValueParser.TheVariants.{String}
use Rattle.em_words.specs.Texts.{Slot, workers, rounds, command, count}
use Rattle.em_words.specs.ClapCommand.{command_line, command_shape}

abbrev pub id_of : Slot → Text
id_of workers = codes "workers"
id_of rounds = codes "rounds"
id_of command = codes "command"
id_of count = codes "count"

-- an argument that takes one text
abbrev pub one_text : Text → Rule
one_text id = record (new_rule id) {
  action = Some Set;
  parser = Some String;
  range = Some (record { start_inclusive = 1; end_inclusive = 1 });
}

abbrev pub rule_at : Slot → Rule
rule_at workers = record (one_text (codes "workers")) { long = Some (codes "workers") }
rule_at rounds = record (one_text (codes "rounds")) { long = Some (codes "rounds") }
rule_at command = record (one_text (codes "command")) { index = Some 1 }
rule_at count = record (one_text (codes "count")) { index = Some 2 }

abbrev pub rules : List Rule
rules = rule_at workers ∷ rule_at rounds ∷ rule_at command ∷ rule_at count ∷ []

abbrev pub shape : Shape
shape = record command_shape { rules = rules; disable_help_subcommand = true; is_built = true }

abbrev pub built_line : App
built_line = record { top = shape; subs = [] }

pub line_built : built command_line ≡ built_line
line_built = refl

pub line_simple : is_simple command_line ≡ true
line_simple = refl

pub line_free : is_simple_and_free command_line ≡ true
line_free = refl
