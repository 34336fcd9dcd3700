-- What stands from a place on.
use Rattle.std.proofs.Common.{◌≡◌, ℕ, zero, suc, ◌+◌, ◌<◌, ◌≤◌, List, [], ◌∷◌, length, drop, true, false, Option, Some, ap, sym, ◌∙◌, refl, subst, arith}
use Rattle.std.proofs.Common.{IfSome, slice_get}
use Rattle.std.proofs.lemmas.Option.{slice_get-get_or}
use Rattle.smt_text.specs.declared.token.Token.{Token as TokenOf}
use Rattle.smt_text.specs.Partners.{IsPartner, Closes, kinds}
use Rattle.smt_text.proofs.PartnersLaws.{Closes-ahead, length-kinds}
use Rattle.std.proofs.lemmas.List.{drop_more, drop_all}
use Rattle.smt_text.specs.Word.{Word}
use Rattle.smt_text.specs.Trees.{Trees, End, Token, Group, ahead, before, outermost, outer}
use Rattle.smt_text.specs.declared.token.Kind.{Kind}
use Rattle.smt_text.specs.declared.token.Kind.TheVariants.{Left, Right, Symbol, Keyword, Numeral, Decimal, Hex, Binary, Text}
use Rattle.smt_terms.specs.Reading as meaning
use Rattle.smt_terms.specs.Terms.{reading, list_value, group_reading}
use Rattle.smt_terms.specs.Cursor.{nowhere, word_at, is_left, is_right, trees_from}

abbrev inner : List Word → ℕ → Trees
inner words i = outermost (ahead (drop i words))

abbrev behind : List Word → ℕ → List Trees
behind words i = outer (ahead (drop i words))

-- what stands ahead of a word
pub ahead_at : (words : List Word) (i : ℕ) → i < length words → ahead (drop i words) ≡ before (word_at words i).kind (word_at words i) (ahead (drop (i + 1) words))
unfolding ahead
ahead_at words i below = rw (drop_more words i nowhere below) refl

-- a token that is no parenthesis is a tree
before_token : (k : Kind) (w : Word) (rest : List Trees) → is_left k ≡ false → is_right k ≡ false → before k w rest ≡ Token w (outermost rest) ∷ outer rest
before_token Left w rest l r = absurd (cc)
before_token Right w rest l r = absurd (cc)
before_token Symbol w rest l r = refl
before_token Keyword w rest l r = refl
before_token Numeral w rest l r = refl
before_token Decimal w rest l r = refl
before_token Hex w rest l r = refl
before_token Binary w rest l r = refl
before_token Text w rest l r = refl

before_left : (k : Kind) (w : Word) (rest : List Trees) → is_left k ≡ true → before k w rest ≡ Group w (outermost rest) (outermost (outer rest)) ∷ outer (outer rest)
before_left Left w rest l = refl
before_left k w rest l = absurd (cc)

before_right : (k : Kind) (w : Word) (rest : List Trees) → is_right k ≡ true → before k w rest ≡ End ∷ rest
before_right Right w rest r = refl
before_right k w rest r = absurd (cc)

module _ (words : List Word) (n : ℕ) where
  pub ahead_left : n < length words → is_left (word_at words n).kind ≡ true
      → ahead (drop n words) ≡ Group (word_at words n) (inner words (n + 1)) (outermost (behind words (n + 1))) ∷ outer (behind words (n + 1))
  ahead_left below left = ahead_at words n below ∙ before_left (word_at words n).kind (word_at words n) (ahead (drop (n + 1) words)) left

  pub ahead_right : n < length words → is_right (word_at words n).kind ≡ true → ahead (drop n words) ≡ End ∷ ahead (drop (n + 1) words)
  ahead_right below right = ahead_at words n below ∙ before_right (word_at words n).kind (word_at words n) (ahead (drop (n + 1) words)) right

  pub ahead_token : n < length words → is_left (word_at words n).kind ≡ false → is_right (word_at words n).kind ≡ false
      → ahead (drop n words) ≡ Token (word_at words n) (inner words (n + 1)) ∷ behind words (n + 1)
  ahead_token below left right = ahead_at words n below ∙ before_token (word_at words n).kind (word_at words n) (ahead (drop (n + 1) words)) left right

  pub ahead_end : length words ≤ n → ahead (drop n words) ≡ []
  unfolding ahead
  ahead_end past = rw (drop_all n words past) refl

left_kind : (k : Kind) → is_left k ≡ true → k ≡ Left
left_kind Left l = refl
left_kind k l = absurd (cc)

-- the partner of a left parenthesis closes it
pub closes_left : (words : List Word) (i j : ℕ) (found is : Kind) → found ≡ is → is_left is ≡ true → IsPartner (kinds words) i j found → Closes (kinds words) i j
closes_left words i j found is same left partner = subst (IsPartner (kinds words) i j) (same ∙ left_kind is left) partner

pub behind_list : (words : List Word) (i j : ℕ) → Closes (kinds words) i j → outermost (ahead (drop (j + 1) words)) ≡ outermost (outer (ahead (drop (i + 1) words)))
behind_list words i j closes = ap outermost (Closes-ahead words i j closes)

pub partner_within : (words : List Word) (i j : ℕ) → Closes (kinds words) i j → (i < j) × (j < length words)
partner_within words i j closes = (closes.later, omega (arith, closes.there, length-kinds words))

-- the kind of a token is that of its word
pub token_word : (words : List Word) (i : ℕ) (token : TokenOf) → i < length words
    → IfSome (slice_get words i) (λ word. (token.kind ≡ word.kind) × (token.place ≡ word.place) × (token.length ≡ length word.text)) → token.kind ≡ (word_at words i).kind
token_word words i token below is =
    let there : slice_get words i ≡ Some (word_at words i) = slice_get-get_or words i nowhere below in
    (subst (λ (o : Option Word). IfSome o (λ word. (token.kind ≡ word.kind) × (token.place ≡ word.place) × (token.length ≡ length word.text))) there is).0

-- what comes next, by the word that stands there
module _ (words : List Word) (i : ℕ) where
  pub here_past : length words ≤ i → trees_from words i ≡ meaning.End
  unfolding trees_from reading
  here_past past = rw (ahead_end words i past) refl

  pub here_right : i < length words → is_right (word_at words i).kind ≡ true → trees_from words i ≡ meaning.End
  unfolding trees_from reading
  here_right below right = rw (ahead_right words i below right) refl

  pub here_token : i < length words → is_left (word_at words i).kind ≡ false → is_right (word_at words i).kind ≡ false → trees_from words i ≡ meaning.Token (word_at words i) (trees_from words (i + 1))
  unfolding trees_from reading
  here_token below left right = rw (ahead_token words i below left right) refl

  pub here_list : (after : ℕ) → i < length words → is_left (word_at words i).kind ≡ true → outermost (ahead (drop after words)) ≡ outermost (outer (ahead (drop (i + 1) words)))
      → trees_from words i ≡ meaning.Group (word_at words i) (list_value (word_at words i) (trees_from words (i + 1))) (trees_from words (i + 1)) (trees_from words after)
  unfolding trees_from reading
  here_list after below left e = rw (ahead_left words i below left) (ap (λ (t : Trees). group_reading (word_at words i) (reading (inner words (i + 1))) (reading t)) (sym e))

-- one tree more is passed
pub from_more : (n : ℕ) (trees : meaning.Reading) → meaning.from (n + 1) trees ≡ meaning.from 1 (meaning.from n trees)
from_more n trees = ap (λ (k : ℕ). meaning.from k trees) one ∙ by n trees
  where
    one : n + 1 ≡ suc n
    one = omega arith

    by : (n : ℕ) (trees : meaning.Reading) → meaning.from (suc n) trees ≡ meaning.from 1 (meaning.from n trees)
    by zero trees = refl
    by (suc n) meaning.End = refl
    by (suc n) (meaning.Token word trees) = by n trees
    by (suc n) (meaning.Group paren meaning inner trees) = by n trees
