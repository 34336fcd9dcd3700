-- The command line as `clap` is told of it. Only the contracts inside this crate speak of it.
use Rattle.std.specs.Prelude.{true, List, [], ◌∷◌, Some, codes}
use Rattle.clap.specs.Words.{App, Row, Rule, Shape, Text, first_of, new_rule}
use Rattle.em_words.specs.Texts.{Texts}
use Rattle.clap.specs.Simple.{new_shape}
use Rattle.clap.specs.declared.builder.action.ArgAction.TheVariants.{Set}

-- an option of this name, with a value
abbrev pub option_rule : Text → Rule
option_rule name = record (new_rule name) { long = Some name; action = Some Set }

abbrev pub command_shape : Shape
command_shape = record (new_shape (codes "ematch")) {
  rules = option_rule (codes "workers") ∷ option_rule (codes "rounds")
      ∷ new_rule (codes "command") ∷ new_rule (codes "count") ∷ [];
  no_binary_name = true;
  disable_help_flag = true;
  disable_version_flag = true;
}

abbrev pub command_line : App
command_line = record { top = command_shape; subs = [] }

-- the texts of a parse
abbrev pub texts_of_rows : List Row → Texts
texts_of_rows rows = record {
  workers = first_of (codes "workers") rows;
  rounds = first_of (codes "rounds") rows;
  command = first_of (codes "command") rows;
  count = first_of (codes "count") rows;
}
