-- How far lexemes were read.
use Rattle.std.proofs.Common.{◌≡◌, ℕ, ◌+◌, ◌<◌, ◌≤◌, List, [], ◌∷◌, ◌++◌, length, drop, refl, ap, sym, ◌∙◌, arith, length-append, append_assoc}
use Rattle.std.proofs.lemmas.List.{drop-append-le, drop_all, append-nil}
use Rattle.smt_text.specs.Lexicon.{lexeme}
use Rattle.smt_text.specs.Inside.{lexeme_in, lexeme_after, Follows, Fits, FitsIn}
use Rattle.smt_text.specs.Scanner.{HasRead, Finds, at_start}
use Rattle.smt_text.specs.declared.scanner.Scanner.{Scanner}
use Rattle.smt_text.specs.declared.lexeme.Lexeme.{Lexeme}
use Rattle.smt_text.specs.declared.lexeme.Lexeme.TheVariants.{Blank, Token, Ill, Cut}
use Rattle.smt_text.specs.declared.inside.Inside.{Inside}
use Rattle.smt_text.specs.declared.inside.Inside.TheVariants as inside
use Rattle.smt_text.specs.declared.inside.Next.{Next}
use Rattle.smt_text.specs.declared.inside.Next.TheVariants as next

drop_none : (xs : List ℕ) → drop 0 xs ≡ xs
drop_none [] = refl
drop_none (x ∷ xs) = refl

pub start_read : (bytes : List ℕ) → HasRead bytes at_start
start_read bytes = record { begun = refl; within = omega arith; goes_on = λ more. ap (λ (xs : List ℕ). lexeme (xs ++ more)) (sym (drop_none bytes)) }

-- more bytes stand behind
pub read_more : (xs ys : List ℕ) (s : Scanner) → HasRead xs s → HasRead (xs ++ ys) s
read_more xs ys s read = record {
  begun = read.begun;
  within = omega (arith, read.within, length-append xs ys);
  goes_on = λ more.
      ap lexeme (append_assoc xs ys more) ∙ read.goes_on (ys ++ more)
      ∙ ap (lexeme_in s.inside s.seen) (sym (ap (λ (zs : List ℕ). zs ++ more) (drop-append-le s.seen xs ys read.within) ∙ append_assoc (drop s.seen xs) ys more));
}

-- the bytes end where the lexeme is not known yet
ends_cut : (i : Inside) (n : ℕ) → lexeme_in i n [] ≡ Cut
unfolding lexeme
ends_cut inside.Start n = refl
ends_cut i n = refl

module _ (bytes : List ℕ) (s : Scanner) where
  pub finds_cut : HasRead bytes s → length bytes ≤ s.seen → Finds bytes s Cut
  finds_cut read end = (read, ap lexeme (sym (append-nil bytes)) ∙ read.goes_on [] ∙ ap (λ (xs : List ℕ). lexeme_in s.inside s.seen (xs ++ [])) (drop_all s.seen bytes end) ∙ ends_cut s.inside s.seen)

  -- the lexeme goes on behind the next byte
  next_byte : (b : ℕ) (next : Next) → HasRead bytes s → drop s.seen bytes ≡ b ∷ drop (s.seen + 1) bytes → Follows s.inside s.seen b next
      → (more : List ℕ) → lexeme (bytes ++ more) ≡ lexeme_after next s.seen (drop (s.seen + 1) bytes ++ more)
  next_byte b next read is follows more = read.goes_on more ∙ ap (λ (xs : List ℕ). lexeme_in s.inside s.seen (xs ++ more)) is ∙ follows (drop (s.seen + 1) bytes ++ more)

  pub reads_on : (b : ℕ) (i : Inside) → HasRead bytes s → s.seen < length bytes → drop s.seen bytes ≡ b ∷ drop (s.seen + 1) bytes
      → Follows s.inside s.seen b (next.Inside i) → Fits s.seen (next.Inside i) → HasRead bytes (record { inside = i; seen = s.seen + 1 })
  reads_on b i read within is follows fits = record {
    begun = fits;
    within = omega (arith, within);
    goes_on = next_byte b (next.Inside i) read is follows;
  }

  fits_all : (l : Lexeme) → s.seen < length bytes → FitsIn (s.seen + 1) l → FitsIn (length bytes) l
  fits_all (Blank n) within fits = (fits.0, omega (arith, fits.1, within))
  fits_all (Token kind n) within fits = (fits.0, omega (arith, fits.1, within))
  fits_all (Ill n) within fits = omega (arith, fits, within)
  fits_all Cut within fits = absurd fits

  finds_known : (l : Lexeme) → FitsIn (length bytes) l → ((more : List ℕ) → lexeme (bytes ++ more) ≡ l) → Finds bytes s l
  finds_known Cut fits is = absurd fits
  finds_known l fits is = (fits, is)

  pub finds_it : (b : ℕ) (l : Lexeme) → HasRead bytes s → s.seen < length bytes → drop s.seen bytes ≡ b ∷ drop (s.seen + 1) bytes
      → Follows s.inside s.seen b (next.Is l) → Fits s.seen (next.Is l) → Finds bytes s l
  finds_it b l read within is follows fits = finds_known l (fits_all l within fits) (next_byte b (next.Is l) read is follows)
