-- Trees in which each list has its meaning, and checks of their form.
use Rattle.std.specs.Prelude.{ℕ, zero, suc, Bool, true, false, cond, not, ◌&&◌, ◌==◌, List, [], ◌∷◌, ◌++◌, bytes_eq}
use Rattle.std.specs.List.{list_any}
use Rattle.smt_text.specs.Word.{Word}
use Rattle.smt_text.specs.declared.token.Place.{Place}
use Rattle.smt_names.specs.declared.value.Value.{Value}
use Rattle.smt_names.specs.declared.refusal.Refusal.{Refusal}
use Rattle.smt_names.specs.declared.refusal.Refusal.TheVariants.{BadForm, NotInProfile}
use Rattle.smt_names.specs.Making.{Making, gives, ◌>>=◌, ◌>>◌, must_hold, refuse, bad_form, not_in_profile}
use Rattle.smt_names.specs.Names.{State, Scope, is_keyword, is_wide, lawful_name, sort_of_token}

-- what a term means: in each scope it makes a value, or is refused
abbrev pub Meaning : Type 0
Meaning = Scope → Making Value

-- trees side by side, where a list stands with what it means
pub data Reading : Type 0 where
  End : Reading
  Token : Word → Reading → Reading
  Group : (paren : Word) → (meaning : Meaning) → (inner : Reading) → Reading → Reading

-- the trees from the n-th on
abbrev pub from : ℕ → Reading → Reading
from zero trees = trees
from (suc n) End = End
from (suc n) (Token word trees) = from n trees
from (suc n) (Group paren meaning inner trees) = from n trees

-- the place of the first tree, or, where there is none, this one
abbrev pub first_place : Place → Reading → Place
first_place none End = none
first_place none (Token word trees) = word.place
first_place none (Group paren meaning inner trees) = paren.place

-- a tree is one too many
abbrev pub no_more : Refusal → Reading → Making (Unit {0})
no_more refusal End = gives tt
no_more refusal (Token word trees) = refuse refusal word.place
no_more refusal (Group paren meaning inner trees) = refuse refusal paren.place

-- what is too much is bad form at the first tree too many, and what is missing at this place
abbrev pub at_most : ℕ → Reading → Making (Unit {0})
at_most n trees = no_more BadForm (from n trees)

abbrev pub at_least : ℕ → Place → Reading → Making (Unit {0})
at_least zero missing trees = gives tt
at_least (suc n) missing End = bad_form missing
at_least (suc n) missing (Token word trees) = at_least n missing trees
at_least (suc n) missing (Group paren meaning inner trees) = at_least n missing trees

abbrev pub exactly : ℕ → Place → Reading → Making (Unit {0})
exactly n missing trees = do
  at_least n missing trees
  at_most n trees

-- the token that a first tree must be
abbrev pub token_first : Place → Reading → Making Word
token_first missing End = bad_form missing
token_first missing (Token word trees) = gives word
token_first missing (Group paren meaning inner trees) = bad_form paren.place

-- the parenthesis and the trees of the list that a first tree must be
pub record Listed : Type 0 where
  pub paren : Word
  pub inner : Reading

abbrev pub list_first : Place → Reading → Making Listed
list_first missing End = bad_form missing
list_first missing (Token word trees) = bad_form word.place
list_first missing (Group paren meaning inner trees) = gives (record { paren = paren; inner = inner })

-- the sort that a first tree names: Bool or a declared one
abbrev pub sort_first : State → Place → Reading → Making ℕ
sort_first state missing End = bad_form missing
sort_first state missing (Token word trees) = sort_of_token state word
sort_first state missing (Group paren meaning inner trees) = not_in_profile paren.place

-- a sort other than Bool
abbrev pub other_sort : State → Place → Reading → Making ℕ
other_sort state missing trees = do
  sort ← sort_first state missing trees
  must_hold (not (sort == 0)) NotInProfile (first_place missing trees)
  gives sort

-- a name that may be bound, and is none of these
abbrev pub new_binding : List (List ℕ) → Place → Reading → Making Word
new_binding names missing trees = do
  name ← token_first missing trees
  lawful_name name
  must_hold (not (list_any (bytes_eq name.text) names)) BadForm name.place
  gives name

-- the place of the head of a list, the token that it begins with, or, where it has no head, this one
abbrev pub head_place : Place → Reading → Place
head_place paren (Token head parts) = head.place
head_place paren trees = paren

-- the name of a binding, a list of a name, which none of these is, and of one tree more
abbrev pub binding_name : List (List ℕ) → Word → Reading → Making Word
binding_name names paren inner = do
  exactly 2 (head_place paren.place inner) inner
  new_binding names paren.place inner

-- the bindings of a let, a forall or a definition after those of these names: none has a name twice
abbrev pub bindings_after : List (List ℕ) → Reading → Making (Unit {0})
bindings_after names End = gives tt
bindings_after names (Token word trees) = bad_form word.place
bindings_after names (Group paren meaning inner trees) = do
  name ← binding_name names paren inner
  bindings_after (names ++ name.text ∷ []) trees

abbrev pub one_or_more : Place → Reading → Making (Unit {0})
one_or_more missing trees = do
  at_least 1 missing trees
  bindings_after [] trees

-- a list of bindings, of which there is one or more
abbrev pub some_bindings : Place → Reading → Making Listed
some_bindings missing trees = do
  listed ← list_first missing trees
  one_or_more listed.paren.place listed.inner
  gives listed

-- the name of a binding too many is refused
abbrev pub no_binding : Refusal → Reading → Making (Unit {0})
no_binding refusal (Group paren meaning (Token name given) trees) = refuse refusal name.place
no_binding refusal trees = gives tt

-- attributes from here on: keywords, and behind each of them perhaps one value, a token or a list; whether a value
-- may come next
abbrev pub attributes_after : Bool → Reading → Making (Unit {0})
attributes_after valued End = gives tt
attributes_after valued (Token word trees) = cond (is_keyword word.kind) (attributes_after true trees)
    (do
      must_hold (valued && not (is_wide word)) BadForm word.place
      attributes_after false trees)
attributes_after valued (Group paren meaning inner trees) = do
  must_hold valued BadForm paren.place
  attributes_after false trees

-- the attributes behind the first tree of what stands behind !, of which there is one or more
abbrev pub attributes_of : Place → Reading → Making (Unit {0})
attributes_of head trees = do
  at_least 2 head trees
  attributes_after false (from 1 trees)
