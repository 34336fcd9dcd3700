-- A lexeme under way.
use Rattle.std.specs.Prelude.{◌≡◌, ℕ, ◌≤◌, List, ◌++◌, length, drop}
use Rattle.smt_text.specs.Lexicon.{lexeme}
use Rattle.smt_text.specs.Inside.{lexeme_in, HasBegun, FitsIn}
use Rattle.smt_text.specs.declared.lexeme.Lexeme.{Lexeme}
use Rattle.smt_text.specs.declared.lexeme.Lexeme.TheVariants.{Cut}
use Rattle.smt_text.specs.declared.inside.Inside.TheVariants.{Start}
use Rattle.smt_text.specs.declared.scanner.Scanner.{Scanner}

-- nothing was read
abbrev pub at_start : Scanner
at_start = record { inside = Start; seen = 0 }

-- A front of these bytes was read, and whatever comes after them, what was found there says how their lexeme goes on.
pub record HasRead (bytes : List ℕ) (scanner : Scanner) : Type 0 where
  pub begun : HasBegun scanner.inside scanner.seen
  pub within : scanner.seen ≤ length bytes
  pub goes_on : (more : List ℕ) → lexeme (bytes ++ more)
      ≡ lexeme_in scanner.inside scanner.seen (drop scanner.seen bytes ++ more)

-- What is found at the front of the bytes: it is so whatever comes after them, or they are read to their end.
abbrev pub Finds : List ℕ → Scanner → Lexeme → Type 0
Finds bytes scanner Cut = HasRead bytes scanner × (lexeme bytes ≡ Cut)
Finds bytes scanner l = FitsIn (length bytes) l × ((more : List ℕ) → lexeme (bytes ++ more) ≡ l)
