-- What `clap` and this crate see in a word.
use Rattle.std.proofs.Common.{◌≡◌, ℕ, suc, ◌+◌, ◌==◌, ◌&&◌, Bool, true, false, not, List, [], ◌∷◌, Option, Some, None, refl, sym, ap, ◌∙◌, ◌⊎◌, inl, inr, cond, take, drop, arith, codes, if◌then◌else◌}
use Rattle.std.specs.Prelude.{slice_get}
use Rattle.std.specs.List.{before_first, after_first, prefix_len}
use Rattle.std.specs.Str.{bytes_eq, IsUtf8}
use Rattle.std.specs.Str.{chars}
use Rattle.std.specs.Char.{encode_utf8}
use Rattle.std.proofs.lemmas.Str.{encodes-chars}
use Rattle.std.specs.Str.{encode_utf8_all}
use Rattle.std.proofs.lemmas.Bool.Decides.{eqb_tells}
use Rattle.clap.specs.Lexer.{long_of, short_of, has_byte}
use Rattle.em_words.specs.Number.{Text}
use Rattle.em_words.specs.Texts.{Slot, workers, rounds, option_named, joined_value, is_flag}

abbrev pub is_equals : ℕ → Bool
is_equals b = b == 61

one : (n : ℕ) → 1 + n ≡ suc n
one n = omega arith

one_more : (n : ℕ) → suc n + 1 ≡ suc (n + 1)
one_more n = omega arith

-- what stands before the first `=` of a text that begins with another byte
pub before_step : (b : ℕ) (bs : List ℕ) → (b == 61) ≡ false → before_first is_equals (b ∷ bs) ≡ b ∷ before_first is_equals bs
before_step b bs e =
    let n = prefix_len (λ x. not (is_equals x)) bs in
    ap (λ (t : Bool). take (cond (not t) (1 + n) 0) (b ∷ bs)) e ∙ ap (λ (k : ℕ). take k (b ∷ bs)) (one n)

pub after_step : (b : ℕ) (bs : List ℕ) → (b == 61) ≡ false → after_first is_equals (b ∷ bs) ≡ after_first is_equals bs
after_step b bs e =
    let n = prefix_len (λ x. not (is_equals x)) bs in
    ap (λ (t : Bool). drop (cond (not t) (1 + n) 0 + 1) (b ∷ bs)) e
    ∙ (ap (λ (k : ℕ). drop (k + 1) (b ∷ bs)) (one n) ∙ ap (λ (k : ℕ). drop k (b ∷ bs)) (one_more n))

-- the option of a long name, and of a name with its hyphens
abbrev pub long_named : Text → Option Slot
long_named name = if bytes_eq (codes "workers") name then Some workers
    else (if bytes_eq (codes "rounds") name then Some rounds else None)

abbrev pub named_by : Text → Option Slot
named_by name = if bytes_eq (codes "--workers") name then Some workers
    else (if bytes_eq (codes "--rounds") name then Some rounds else None)

-- no flag
pub record IsPlain (word : Text) : Type 0 where
  pub dashes : bytes_eq word (45 ∷ 45 ∷ []) ≡ false
  pub long : long_of word ≡ None
  pub short : short_of word ≡ None
  pub named : option_named word ≡ None
  pub flag : is_flag word ≡ false

-- `--name` or `--name=value`
pub record IsLong (word : Text) : Type 0 where
  pub name : Text
  pub value : Option Text
  pub dashes : bytes_eq word (45 ∷ 45 ∷ []) ≡ false
  pub long : long_of word ≡ Some (name, value)
  pub named : option_named word ≡ long_named name
  pub joined : joined_value word ≡ value
  pub flag : is_flag word ≡ true

-- `-x`
pub record IsShort (word : Text) : Type 0 where
  pub byte : ℕ
  pub bytes : Text
  pub first : ℕ
  pub dashes : bytes_eq word (45 ∷ 45 ∷ []) ≡ false
  pub long : long_of word ≡ None
  pub short : short_of word ≡ Some (byte ∷ bytes)
  pub char : slice_get (chars (byte ∷ bytes)) 0 ≡ Some first
  pub named : option_named word ≡ None
  pub flag : is_flag word ≡ true

-- `--`
pub record IsDashes (word : Text) : Type 0 where
  pub dashes : bytes_eq word (45 ∷ 45 ∷ []) ≡ true
  pub flag : is_flag word ≡ true

abbrev pub Look : Text → Type 0
Look word = IsPlain word ⊎ (IsLong word ⊎ (IsShort word ⊎ IsDashes word))

not_hyphen : (y : ℕ) → (y == 45) ≡ false → (45 == y) ≡ false
not_hyphen y e = elim (eqb_tells 45 y) [
  | inl h ↦
      let same : (45 == 45) ≡ false = ap (λ (z : ℕ). z == 45) h.1 ∙ e in
      cc
  | inr h ↦ h.0
]

-- no name begins with another byte than a hyphen
no_name : (t : Text) (y : ℕ) (ys : List ℕ) → (y == 45) ≡ false → bytes_eq (45 ∷ t) (before_first is_equals (y ∷ ys)) ≡ false
no_name t y ys e = go (y == 61) refl
  where
    go : (b : Bool) → (y == 61) ≡ b → bytes_eq (45 ∷ t) (before_first is_equals (y ∷ ys)) ≡ false
    go true is = ap (λ (b : Bool). bytes_eq (45 ∷ t) (take (cond (not b) (1 + prefix_len (λ x. not (is_equals x)) ys) 0) (y ∷ ys))) is
    go false is = ap (bytes_eq (45 ∷ t)) (before_step y ys is)
        ∙ ap (λ (b : Bool). b && bytes_eq t (before_first is_equals ys)) (not_hyphen y e)

none_named : (word : Text) → bytes_eq (codes "--workers") (before_first is_equals word) ≡ false
    → bytes_eq (codes "--rounds") (before_first is_equals word) ≡ false → option_named word ≡ None
none_named word a b = ap (λ (t : Bool). if t then Some workers
    else (if bytes_eq (codes "--rounds") (before_first is_equals word) then Some rounds else None)) a
    ∙ ap (λ (t : Bool). if t then Some rounds else None) b

-- the text behind a first hyphen has a first character
first_char : (y : ℕ) (ys : List ℕ) → IsUtf8 (45 ∷ y ∷ ys) → (c : ℕ) × (slice_get (chars (y ∷ ys)) 0 ≡ Some c)
unfolding chars encode_utf8
first_char y ys u = go (chars (y ∷ ys)) refl
  where
    go : (cs : List ℕ) → chars (y ∷ ys) ≡ cs → (c : ℕ) × (slice_get (chars (y ∷ ys)) 0 ≡ Some c)
    go [] e =
        let all : encode_utf8_all (45 ∷ chars (y ∷ ys)) ≡ 45 ∷ y ∷ ys = encodes-chars (45 ∷ y ∷ ys) u in
        let short : 45 ∷ [] ≡ 45 ∷ y ∷ ys = sym (ap (λ (cs : List ℕ). encode_utf8_all (45 ∷ cs)) e) ∙ all in
        cc
    go (c ∷ cs) e = (c, ap (λ (l : List ℕ). slice_get l 0) e)

plain : (x : ℕ) (xs : List ℕ) → (x == 45) ≡ false → IsPlain (x ∷ xs)
plain x xs e = record {
  dashes = rw e refl;
  long = rw e refl;
  short = rw e refl;
  named = none_named (x ∷ xs) (no_name (codes "-workers") x xs e) (no_name (codes "-rounds") x xs e);
  flag = flag_of xs;
}
  where
    flag_of : (l : List ℕ) → is_flag (x ∷ l) ≡ false
    flag_of [] = refl
    flag_of (y ∷ ys) = e

hyphen : IsPlain (45 ∷ [])
hyphen = record { dashes = refl; long = refl; short = refl; named = refl; flag = refl }

short_word : (y : ℕ) (ys : List ℕ) → IsUtf8 (45 ∷ y ∷ ys) → (y == 45) ≡ false → IsShort (45 ∷ y ∷ ys)
short_word y ys u e = record {
  byte = y;
  bytes = ys;
  first = (first_char y ys u).0;
  dashes = rw e refl;
  long = rw e refl;
  short = rw e refl;
  char = (first_char y ys u).1;
  named = none_named (45 ∷ y ∷ ys)
      (ap (bytes_eq (codes "--workers")) (before_step 45 (y ∷ ys) refl) ∙ no_name (codes "workers") y ys e)
      (ap (bytes_eq (codes "--rounds")) (before_step 45 (y ∷ ys) refl) ∙ no_name (codes "rounds") y ys e);
  flag = refl;
}

long_word : (x : ℕ) (xs : List ℕ) → IsLong (45 ∷ 45 ∷ x ∷ xs)
long_word x xs = record {
  name = before_first is_equals (x ∷ xs);
  value = if has_byte 61 (x ∷ xs) then Some (after_first is_equals (x ∷ xs)) else None;
  dashes = refl;
  long = refl;
  named = ap named_by (before_step 45 (45 ∷ x ∷ xs) refl ∙ ap (λ (t : List ℕ). 45 ∷ t) (before_step 45 (x ∷ xs) refl));
  joined = ap (λ (t : List ℕ). if has_byte 61 (x ∷ xs) then Some t else None)
      (after_step 45 (45 ∷ x ∷ xs) refl ∙ after_step 45 (x ∷ xs) refl);
  flag = refl;
}

double : (zs : List ℕ) → Look (45 ∷ 45 ∷ zs)
double [] = inr (inr (inr (record { dashes = refl; flag = refl })))
double (x ∷ xs) = inr (inl (long_word x xs))

single : (ys : List ℕ) → IsUtf8 (45 ∷ ys) → Look (45 ∷ ys)
single [] u = inl hyphen
single (y ∷ ys) u = elim (eqb_tells y 45) [
  | inl h ↦
      let P : ℕ → Type 0 = λ z. Look (45 ∷ z ∷ ys) in
      subst_back P h.1 (double ys)
  | inr h ↦ inr (inr (inl (short_word y ys u h.0)))
]
  where
    subst_back : (P : ℕ → Type 0) → y ≡ 45 → P 45 → P y
    subst_back P e p = rw e p

-- each word is one of the four
pub look : (word : Text) → IsUtf8 word → Look word
look [] u = inl (record { dashes = refl; long = refl; short = refl; named = refl; flag = refl })
look (x ∷ xs) u = elim (eqb_tells x 45) [
  | inl h ↦ turned x h.1 u
  | inr h ↦ inl (plain x xs h.0)
]
  where
    turned : (z : ℕ) → z ≡ 45 → IsUtf8 (z ∷ xs) → Look (z ∷ xs)
    turned z e v =
        let w : IsUtf8 (45 ∷ xs) = rw e at v in
        rw e (single xs w)
