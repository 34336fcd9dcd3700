-- Symbols that are written as they are.
use Rattle.std.specs.Prelude.{ℕ, Bool, false, not, ◌&&◌, List, [], ◌∷◌}
use Rattle.std.specs.List.{list_all}
use Rattle.smt_text.specs.Bytes.{is_symbol_byte, is_digit}

-- a simple symbol is one token without bars: symbol bytes alone, one or more, of which the first is no digit
abbrev pub is_simple : List ℕ → Bool
is_simple [] = false
is_simple (b ∷ bytes) = not (is_digit b) && list_all is_symbol_byte (b ∷ bytes)
