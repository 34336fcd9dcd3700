-- What stands from a word on.
use Rattle.std.specs.Prelude.{◌≡◌, ℕ, ◌+◌, ◌<◌, ◌^◌, Bool, true, false}
use Rattle.std.specs.Prelude.{List, [], length, get_or, drop, Option, Some, None}
use Rattle.smt_text.specs.Word.{Word}
use Rattle.smt_text.specs.Trees.{ahead, outermost}
use Rattle.smt_text.specs.declared.token.Kind.{Kind}
use Rattle.smt_text.specs.declared.token.Kind.TheVariants.{Symbol, Left, Right}
use Rattle.smt_terms.specs.declared.cursor.Seen.{Seen}
use Rattle.smt_terms.specs.declared.cursor.Seen.TheVariants as seen
use Rattle.smt_terms.specs.declared.cursor.Binding.{Binding}
use Rattle.smt_terms.specs.Reading.{Reading, End, Token, Group}
use Rattle.smt_terms.specs.Terms.{reading, list_value}

abbrev pub nowhere : Word
nowhere = record { kind = Symbol; place = record { line = 0; column = 0 }; text = [] }

abbrev pub word_at : List Word → ℕ → Word
word_at words i = get_or words i nowhere

abbrev pub is_left : Kind → Bool
is_left Left = true
is_left kind = false

abbrev pub is_right : Kind → Bool
is_right Right = true
is_right kind = false

-- the trees from a word on, to the end of the list that is open there
unfoldable pub trees_from : List Word → ℕ → Reading
trees_from words i = reading (outermost (ahead (drop i words)))

-- a token comes next
pub record SeesToken (words : List Word) (i : ℕ) : Type 0 where
  pub within : i < length words
  pub fits : length words < 2 ^ 32
  pub is : trees_from words i ≡ Token (word_at words i) (trees_from words (i + 1))

-- a list comes next, and this is the place behind it
pub record SeesList (words : List Word) (i after : ℕ) : Type 0 where
  pub within : i < length words
  pub fits : length words < 2 ^ 32
  pub is : trees_from words i ≡ Group (word_at words i) (list_value (word_at words i) (trees_from words (i + 1)))
      (trees_from words (i + 1)) (trees_from words after)

-- what comes next
abbrev pub Sees : List Word → ℕ → Seen → Type 0
Sees words i seen.End = trees_from words i ≡ End
Sees words i seen.Token = SeesToken words i
Sees words i (seen.List after) = SeesList words i after

-- a binding comes next: a list that begins with a token
abbrev pub is_binding : Reading → Bool
is_binding (Group paren meaning (Token name given) trees) = true
is_binding trees = false

-- a binding comes next, whose name is that token, and this is the place behind it
pub record SeesBinding (words : List Word) (i name behind : ℕ) : Type 0 where
  pub named : name ≡ i + 1
  pub within : name < length words
  pub fits : length words < 2 ^ 32
  pub is : trees_from words i ≡ Group (word_at words i) (list_value (word_at words i)
      (Token (word_at words name) (trees_from words (name + 1))))
      (Token (word_at words name) (trees_from words (name + 1))) (trees_from words behind)

-- the binding that comes next
abbrev pub MaySeeBinding : List Word → ℕ → Option Binding → Type 0
MaySeeBinding words i None = is_binding (trees_from words i) ≡ false
MaySeeBinding words i (Some b) = SeesBinding words i b.name b.behind
