-- What the bytes of a lexeme so far are, and what one byte more makes of it.
use Rattle.std.specs.Prelude.{◌≡◌, ℕ, ◌+◌, ◌≤◌, true, false, List, ◌∷◌}
use Rattle.smt_text.specs.Bytes.{is_digit, is_hex_digit, is_binary_digit}
use Rattle.smt_text.specs.Lexicon.{lexeme, comment_from, symbol_from, keyword_from, zero_from, numeral_from}
use Rattle.smt_text.specs.Lexicon.{some_from, run_from, based_from, text_from, barred_from}
use Rattle.smt_text.specs.declared.token.Kind.TheVariants as kind
use Rattle.smt_text.specs.declared.lexeme.Lexeme.{Lexeme}
use Rattle.smt_text.specs.declared.lexeme.Lexeme.TheVariants.{Blank, Token, Ill, Cut}
use Rattle.smt_text.specs.declared.inside.Inside.{Inside}
use Rattle.smt_text.specs.declared.inside.Inside.TheVariants as inside
use Rattle.smt_text.specs.declared.inside.Next.{Next}
use Rattle.smt_text.specs.declared.inside.Next.TheVariants as next

-- a lexeme of which n bytes were read, by the bytes behind these
abbrev pub lexeme_in : Inside → ℕ → List ℕ → Lexeme
lexeme_in inside.Start n rest = lexeme rest
lexeme_in inside.Comment n rest = comment_from n rest
lexeme_in inside.Symbol n rest = symbol_from kind.Symbol n rest
lexeme_in inside.Colon n rest = keyword_from n rest
lexeme_in inside.Keyword n rest = symbol_from kind.Keyword n rest
lexeme_in inside.Zero n rest = zero_from n rest
lexeme_in inside.Numeral n rest = numeral_from n rest
lexeme_in inside.Dot n rest = some_from is_digit kind.Decimal n rest
lexeme_in inside.Decimal n rest = run_from is_digit kind.Decimal n rest
lexeme_in inside.Sign n rest = based_from n rest
lexeme_in inside.HexSign n rest = some_from is_hex_digit kind.Hex n rest
lexeme_in inside.Hex n rest = run_from is_hex_digit kind.Hex n rest
lexeme_in inside.BinarySign n rest = some_from is_binary_digit kind.Binary n rest
lexeme_in inside.Binary n rest = run_from is_binary_digit kind.Binary n rest
lexeme_in inside.Text n rest = text_from false n rest
lexeme_in inside.Quote n rest = text_from true n rest
lexeme_in inside.Bars n rest = barred_from n rest

-- at the start no byte was read, and else one or more
abbrev pub HasBegun : Inside → ℕ → Type 0
HasBegun inside.Start n = n ≡ 0
HasBegun inside n = 1 ≤ n

-- a lexeme that is known, of one byte or more and of no more than there are
abbrev pub FitsIn : ℕ → Lexeme → Type 0
FitsIn len (Blank n) = (1 ≤ n) × (n ≤ len)
FitsIn len (Token kind n) = (1 ≤ n) × (n ≤ len)
FitsIn len (Ill n) = n ≤ len
FitsIn len Cut = ⊥

-- what one byte more makes of a lexeme of which n bytes were read has its size
abbrev pub Fits : ℕ → Next → Type 0
Fits n (next.Inside inside) = HasBegun inside (n + 1)
Fits n (next.Is l) = FitsIn (n + 1) l

-- the lexeme, by the bytes behind the next one
abbrev pub lexeme_after : Next → ℕ → List ℕ → Lexeme
lexeme_after (next.Inside inside) n rest = lexeme_in inside (n + 1) rest
lexeme_after (next.Is l) n rest = l

-- the byte makes this of the lexeme, whatever comes after
abbrev pub Follows : Inside → ℕ → ℕ → Next → Type 0
Follows inside n b next = (rest : List ℕ) → lexeme_in inside n (b ∷ rest) ≡ lexeme_after next n rest
