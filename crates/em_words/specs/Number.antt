-- The numbers that words write.
use Rattle.std.specs.Prelude.{ℕ, Bool, false, not, List, [], ◌∷◌}
use Rattle.std.specs.Prelude.{◌==◌, ◌&&◌, nat_le, Option, Some, None, if◌then◌else◌}
use Rattle.std.specs.List.{list_all}
use Rattle.std.specs.Str.Parse.{digits_value}

-- a word, as its bytes
abbrev pub Text : Type 0
Text = List ℕ

-- from `0` to `9`
abbrev pub is_digit : ℕ → Bool
is_digit b = nat_le 48 b && nat_le b 57

-- one digit, or more of which the first is not `0`
abbrev pub is_numeral : Text → Bool
is_numeral [] = false
is_numeral (b ∷ []) = is_digit b
is_numeral (b ∷ c ∷ cs) = not (b == 48) && list_all is_digit (b ∷ c ∷ cs)

-- the number, where it lies from `least` to `most`
abbrev pub within : ℕ → ℕ → ℕ → Option ℕ
within least most n = if nat_le least n && nat_le n most then Some n else None

-- the number that the word writes in decimal, where it lies from `least` to `most`
abbrev pub number_in : ℕ → ℕ → Text → Option ℕ
number_in least most text =
    if is_numeral text then within least most (digits_value 10 text) else None
