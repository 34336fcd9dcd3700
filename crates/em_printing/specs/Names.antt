-- Names of symbols.
use Rattle.std.specs.Prelude.{ℕ, List, [], unwrap_or, codes, ◌==◌, if◌then◌else◌}
use Rattle.smt_names.specs.Names.{State}
use Rattle.smt_commands.specs.Commands.{symbol_name}

-- the name by which a symbol is written: those of true and false, and of each declared function; it is empty where
-- none is declared
abbrev pub names_of : State → ℕ → List ℕ
names_of state symbol =
    if symbol == 0 then codes "true" else
    if symbol == 1 then codes "false" else unwrap_or (symbol_name state symbol) []
