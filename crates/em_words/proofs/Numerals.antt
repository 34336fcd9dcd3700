-- What std reads of the numerals that words may write.
use Rattle.std.proofs.Common.{◌≡◌, ℕ, ◌<◌, ◌≤◌, ◌^◌, ◌==◌, ◌&&◌, Bool, true, false, not, List, [], ◌∷◌, Some, None, refl, sym, ap, ◌∙◌, ◌⊎◌, inl, inr, cond, drop, arith, slice_index, if◌then◌else◌}
use Rattle.std.specs.Prelude.{nat_le}
use Rattle.std.specs.List.{list_all}
use Rattle.std.specs.Char.{digit_value}
use Rattle.std.specs.Int.{IsInRange}
use Rattle.std.specs.Str.Parse.{AllDigits, IsNumeral, digits_value, without_leading_plus}
use Rattle.std.proofs.lemmas.Str.{digit_value_digit}
use Rattle.std.proofs.lemmas.Bool.Decides.{eqb_tells, leb_tells}
use Rattle.em_words.specs.Number.{Text, is_digit, is_numeral, number_in, within}

both : (a b : Bool) → (a && b) ≡ true → (a ≡ true) × (b ≡ true)
both true b h = (refl, h)
both false b h = cc

at_most : (a b : ℕ) → nat_le a b ≡ true → a ≤ b
at_most a b h = elim (leb_tells a b) [
  | inl x ↦ x.1
  | inr x ↦
      let bad : true ≡ false = sym h ∙ x.0 in
      cc
]

in_range : (b : ℕ) → is_digit b ≡ true → IsInRange 48 57 b
in_range b h =
    let parts = both (nat_le 48 b) (nat_le b 57) h in
    (at_most 48 b parts.0, at_most b 57 parts.1)

digit : (b : ℕ) → is_digit b ≡ true → digit_value b < 10
digit b h =
    let value = digit_value_digit b (in_range b h) in
    let most = (in_range b h).1 in
    omega arith

no_plus : (b : ℕ) → is_digit b ≡ true → (b == 43) ≡ false
no_plus b h = elim (eqb_tells b 43) [
  | inl x ↦
      let is = x.1 in
      let least = (in_range b h).0 in
      absurd (omega arith)
  | inr x ↦ x.0
]

all_digits : (bs : List ℕ) → list_all is_digit bs ≡ true → AllDigits 10 bs
all_digits [] h = tt
all_digits (b ∷ bs) h =
    let parts = both (is_digit b) (list_all is_digit bs) h in
    (digit b parts.0, all_digits bs parts.1)

numeral : (text : Text) → is_numeral text ≡ true → IsNumeral 10 text
numeral [] h = cc
numeral (b ∷ []) h = (omega arith, (digit b h, tt))
numeral (b ∷ c ∷ cs) h = (omega arith, all_digits (b ∷ c ∷ cs) (both (not (b == 48)) (list_all is_digit (b ∷ c ∷ cs)) h).1)

unsigned : (text : Text) → is_numeral text ≡ true → (slice_index text 0 == 43) ≡ false
unsigned [] h = cc
unsigned (b ∷ []) h = no_plus b h
unsigned (b ∷ c ∷ cs) h =
    let digits = (both (not (b == 48)) (list_all is_digit (b ∷ c ∷ cs)) h).1 in
    no_plus b (both (is_digit b) (list_all is_digit (c ∷ cs)) digits).0

pub whole : (text : Text) → is_numeral text ≡ true → without_leading_plus text ≡ text
whole text h = ap (λ (t : Bool). drop (cond t 1 0) text) (unsigned text h)

-- a numeral that std does not read lies above each limit
pub no_number : (least most : ℕ) (text : Text) → is_numeral text ≡ true → most < 2 ^ 32
    → ((IsNumeral 10 (without_leading_plus text) × (digits_value 10 (without_leading_plus text) < 2 ^ 32)) → ⊥)
    → None ≡ number_in least most text
no_number least most text h limit none = go (nat_le least n) (leb_tells n most)
  where
    n : ℕ
    n = digits_value 10 text

    same : without_leading_plus text ≡ text
    same = whole text h

    go : (a : Bool) → ((nat_le (digits_value 10 text) most ≡ true) × (digits_value 10 text ≤ most)) ⊎ ((nat_le (digits_value 10 text) most ≡ false) × (most < digits_value 10 text))
        → None ≡ cond (is_numeral text) (cond (a && nat_le (digits_value 10 text) most) (Some (digits_value 10 text)) None) None
    go a (inl x) =
        let small : digits_value 10 text < 2 ^ 32 = omega (arith, x.1, limit) in
        let bad : (IsNumeral 10 text × (digits_value 10 text < 2 ^ 32)) → ⊥ = rw same at none in
        absurd (bad (numeral text h, small))
    go true (inr x) = rw (h, x.0) refl
    go false (inr x) = rw h refl

-- the number that std reads
pub same_number : (least most : ℕ) (text : Text) (n : ℕ) → is_numeral text ≡ true → n ≡ digits_value 10 (without_leading_plus text)
    → within least most n ≡ number_in least most text
same_number least most text n h is =
    ap (within least most) (is ∙ ap (digits_value 10) (whole text h))
    ∙ sym (ap (λ (b : Bool). if b then within least most (digits_value 10 text) else None) h)
