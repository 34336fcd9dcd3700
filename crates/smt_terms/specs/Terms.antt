-- Terms and formulas: what each token and each list means.
use Rattle.std.specs.Prelude.{ℕ, ◌+◌, Bool, true, false, cond, not, ◌&&◌, ◌||◌, ◌==◌, if◌then◌else◌}
use Rattle.std.specs.Prelude.{List, [], ◌∷◌, ◌++◌, length, Option, Some, None, is_some, bytes_eq, codes}
use Rattle.smt_text.specs.Word.{Word}
use Rattle.smt_text.specs.declared.token.Kind.TheVariants.{Left, Right, Symbol, Keyword}
use Rattle.smt_text.specs.declared.token.Place.{Place}
use Rattle.smt_text.specs.Trees as trees
use Rattle.graph_trigger.specs.declared.trigger.Trigger.{Trigger}
use Rattle.formula_draft.specs.declared.draft_row.DraftRow.TheVariants.{Var}
use Rattle.formula_draft.specs.declared.draft_node.DraftNode.TheVariants.{Forall}
use Rattle.formula_draft.specs.Draft.{draft_forall}
use Rattle.smt_names.specs.declared.value.Value.{Value}
use Rattle.smt_names.specs.declared.value.Value.TheVariants.{Term, Formula}
use Rattle.smt_names.specs.declared.arg.Arg.{Arg}
use Rattle.smt_names.specs.declared.bound.Bound.{Bound}
use Rattle.smt_names.specs.declared.stands.Stands.{Stands}
use Rattle.smt_names.specs.declared.stands.Stands.TheVariants.{Given, Variable}
use Rattle.smt_names.specs.declared.refusal.Refusal.TheVariants as refusal
use Rattle.smt_names.specs.Value.{sort_of, self}
use Rattle.smt_names.specs.Making.{Making, gives, ◌>>=◌, ◌>>◌, must_hold, refuse_named}
use Rattle.smt_names.specs.Making.{bad_form, not_in_profile, row, node, put_forall}
use Rattle.smt_names.specs.Names.{State, Scope, bound_as, Named, Unknown, named, is_reserved, is_symbol, is_keyword}
use Rattle.smt_forms.specs.Applied.{applied}
use Rattle.smt_patterns.specs.Roots.{small_root}
use Rattle.smt_patterns.specs.Triggers.{rooted_trigger}
use Rattle.smt_terms.specs.declared.form.Form.{Form}
use Rattle.smt_terms.specs.declared.form.Form.TheVariants.{Let, Annotated, Universal, Foreign, Application}
use Rattle.smt_terms.specs.Reading.{Meaning, Reading, End, Token, Group, from, first_place, no_more}
use Rattle.smt_terms.specs.Reading.{at_least, exactly, Listed, other_sort, some_bindings, no_binding, attributes_of}

-- Tokens.
-- what a bound name stands for; inside a forall a formula must have a complement
abbrev pub stood_for : Scope → Place → Stands → Making Value
stood_for scope at (Given (Term r sort)) = gives (Term r sort)
stood_for scope at (Given (Formula n c)) = do
  must_hold (not scope.in_forall || is_some c) refusal.NotInProfile at
  gives (Formula n c)
stood_for scope at (Variable index sort) = do
  r ← row at (Var index)
  gives (Term r sort)

-- a name that is not bound: it has no arguments
abbrev pub free_value : Word → Named → Making Value
free_value word Unknown = cond (is_reserved word.text) (bad_form word.place)
    (refuse_named refusal.UnknownName word.place word.text)
free_value word name = applied word.place word.place word.text name []

abbrev pub name_value : Scope → Word → Option Bound → Making Value
name_value scope word (Some b) = stood_for scope word.place b.stands
name_value scope word None = free_value word (named scope.state word.text)

unfoldable pub token_value : Scope → Word → Making Value
token_value scope word = elim word.kind [
  | Symbol ↦ name_value scope word (bound_as scope.bound word.text)
  | Keyword ↦ bad_form word.place
  | Left ↦ bad_form word.place
  | Right ↦ bad_form word.place
  | _ ↦ not_in_profile word.place
]

-- Trees.
-- the value of the first tree
abbrev pub value : Place → Scope → Reading → Making Value
value missing scope End = bad_form missing
value missing scope (Token word trees) = token_value scope word
value missing scope (Group paren meaning inner trees) = meaning scope

abbrev pub add_value : Place → Making Value → Making (List Arg) → Making (List Arg)
add_value at first others = do
  v ← first
  args ← others
  gives (record { place = at; value = v } ∷ args)

-- the values of all trees, from left to right
abbrev pub values : Scope → Reading → Making (List Arg)
values scope End = gives []
values scope (Token word trees) = add_value word.place (token_value scope word) (values scope trees)
values scope (Group paren meaning inner trees) = add_value paren.place (meaning scope) (values scope trees)

-- the value of the first tree, a formula
abbrev pub truth : Place → Scope → Reading → Making Value
truth missing scope trees = do
  v ← value missing scope trees
  must_hold (sort_of v == 0) refusal.WrongSort (first_place missing trees)
  gives v

-- Form 1: let.
abbrev pub bind : List ℕ → Value → Bound
bind name v = record { name = name; stands = Given v }

abbrev pub add_bound : List ℕ → Making Value → Making (List Bound) → Making (List Bound)
add_bound name first others = do
  v ← first
  bound ← others
  gives (bind name v ∷ bound)

-- the values of bindings whose form is right, all in one scope
abbrev pub bound_values : Scope → Reading → Making (List Bound)
bound_values scope (Group paren meaning (Token name term) after) = add_bound name.text (value name.place scope term)
    (bound_values scope after)
bound_values scope trees = gives []

abbrev pub let_value : Place → Reading → Meaning
let_value head parts scope = do
  exactly 2 head parts
  listed ← some_bindings head parts
  bound ← bound_values scope listed.inner
  value head (record scope { bound = scope.bound ++ bound }) (from 1 parts)

-- Form 2: !. All attributes are passed over.
abbrev pub annotated_value : Place → Reading → Meaning
annotated_value head parts scope = do
  attributes_of head parts
  value head scope parts

-- Form 3: forall.
abbrev pub add_variable : List ℕ → ℕ → Making ℕ → Making (List Bound) → Making (List Bound)
add_variable name index first others = do
  sort ← first
  variables ← others
  gives (record { name = name; stands = Variable index sort } ∷ variables)

-- the variables of bindings whose form is right, from this index on
abbrev pub variables_from : State → ℕ → Reading → Making (List Bound)
variables_from state index (Group paren meaning (Token name given) after) = add_variable name.text index
    (other_sort state name.place given) (variables_from state (index + 1) after)
variables_from state index trees = gives []

abbrev pub is_pattern_key : Word → Bool
is_pattern_key word = is_keyword word.kind && bytes_eq word.text (codes ":pattern")

-- a :pattern attribute: its keyword, and the trees behind it
pub record Attribute : Type 0 where
  pub key : Word
  pub behind : Reading

abbrev pub attribute_if : Bool → Attribute → List Attribute
attribute_if true attribute = attribute ∷ []
attribute_if false attribute = []

-- the :pattern attributes among some attributes
abbrev pub patterns_in : Reading → List Attribute
patterns_in End = []
patterns_in (Token word trees) = attribute_if (is_pattern_key word) (record { key = word; behind = trees })
    ++ patterns_in trees
patterns_in (Group paren meaning inner trees) = patterns_in trees

-- a body, and the :pattern attributes round it, the outer ones first
pub record Body : Type 0 where
  pub patterns : List Attribute
  pub tree : Reading

abbrev pub is_annotation : Word → Bool
is_annotation word = is_symbol word.kind && bytes_eq word.text (codes "!")

abbrev pub body_of : List Attribute → Reading → Making Body
body_of so_far (Group paren meaning (Token head parts) trees) =
    cond (is_annotation head)
    (do
      attributes_of head.place parts
      body_of (so_far ++ patterns_in (from 1 parts)) parts)
    (gives (record { patterns = so_far; tree = Group paren meaning (Token head parts) trees }))
body_of so_far trees = gives (record { patterns = so_far; tree = trees })

-- the row of a pattern with this meaning
abbrev pub pattern_root : Place → Making Value → Making ℕ
pattern_root at meaning = do
  v ← meaning
  small_root at v

abbrev pub add_root : Making ℕ → Making (List ℕ) → Making (List ℕ)
add_root first others = do
  r ← first
  roots ← others
  gives (r ∷ roots)

-- the roots of patterns, from left to right
abbrev pub pattern_roots : Scope → Reading → Making (List ℕ)
pattern_roots scope End = gives []
pattern_roots scope (Token word trees) = add_root (pattern_root word.place (token_value scope word))
    (pattern_roots scope trees)
pattern_roots scope (Group paren meaning inner trees) = add_root (pattern_root paren.place (meaning scope))
    (pattern_roots scope trees)

-- the list of patterns that must stand behind the keyword
abbrev pub pattern_list : Place → Reading → Making Listed
pattern_list key End = bad_form key
pattern_list key (Token word trees) = bad_form (cond (is_keyword word.kind) key word.place)
pattern_list key (Group paren meaning inner trees) = gives (record { paren = paren; inner = inner })

-- a trigger: the value of :pattern
abbrev pub trigger : Scope → List Bound → Attribute → Making Trigger
trigger scope variables attribute = do
  listed ← pattern_list attribute.key.place attribute.behind
  at_least 1 listed.paren.place listed.inner
  no_more refusal.TooManyPatterns (from 16 listed.inner)
  roots ← pattern_roots scope listed.inner
  rooted_trigger variables listed.paren.place roots

abbrev pub triggers : Scope → List Bound → List Attribute → Making (List Trigger)
triggers scope variables [] = gives []
triggers scope variables (a ∷ attributes) = do
  first ← trigger scope variables a
  others ← triggers scope variables attributes
  gives (first ∷ others)

abbrev pub some_trigger : List Trigger → Bool
some_trigger [] = false
some_trigger (first ∷ others) = true

-- the scope inside a forall of these variables
abbrev pub inside_of : Scope → List Bound → Scope
inside_of scope variables = record scope { bound = scope.bound ++ variables; in_forall = true }

-- the body of a forall and its triggers, where the variables are bound
abbrev pub quantified : (paren head : Place) → Scope → List Bound → Body → Making Value
quantified paren head scope variables body = do
  v ← truth head (inside_of scope variables) body.tree
  patterns ← triggers (inside_of scope variables) variables body.patterns
  must_hold (some_trigger patterns) refusal.NotInProfile head
  index ← put_forall (draft_forall (length variables) (self v) patterns)
  n ← node paren (Forall index)
  gives (Formula n None)

-- a forall of these variables: the attributes round its body, and then the body and the triggers
abbrev pub body_forall : (paren head : Place) → Scope → List Bound → Reading → Making Value
body_forall paren head scope variables trees = do
  body ← body_of [] trees
  quantified paren head scope variables body

-- a forall whose bindings have the right form: at most 32 variables, their sorts, and then its body and its triggers
abbrev pub bound_forall : (paren head : Place) → Scope → (bindings body : Reading) → Making Value
bound_forall paren head scope bindings trees = do
  no_binding refusal.TooManyVariables (from 32 bindings)
  variables ← variables_from scope.state 0 bindings
  body_forall paren head scope variables trees

-- a forall that may stand there
abbrev pub checked_forall : (paren head : Place) → Reading → Meaning
checked_forall paren head parts scope = do
  exactly 2 head parts
  listed ← some_bindings head parts
  bound_forall paren head scope listed.inner (from 1 parts)

abbrev pub forall_value : (paren head : Place) → Reading → Meaning
forall_value paren head parts scope = do
  must_hold (not (scope.in_forall || scope.in_definition)) refusal.NotInProfile head
  checked_forall paren head parts scope

-- Form 5: a name.
abbrev pub named_value : Place → Word → Named → Reading → Meaning
named_value paren head Unknown parts scope = refuse_named refusal.UnknownName head.place head.text
named_value paren head name parts scope = do
  args ← values scope parts
  applied paren head.place head.text name args

abbrev pub unbound_value : Place → Word → Reading → Option Bound → Meaning
unbound_value paren head parts (Some b) scope = refuse_named refusal.WrongArity head.place head.text
unbound_value paren head parts None scope = named_value paren head (named scope.state head.text) parts scope

-- what a head makes of a list
unfoldable pub form_of : List ℕ → Form
form_of name =
    if bytes_eq name (codes "let") then Let else
    if bytes_eq name (codes "!") then Annotated else
    if bytes_eq name (codes "forall") then Universal else
    if is_reserved name then Foreign else Application

abbrev pub form_value : Place → Word → Reading → Form → Meaning
form_value paren head parts Let scope = let_value head.place parts scope
form_value paren head parts Annotated scope = annotated_value head.place parts scope
form_value paren head parts Universal scope = forall_value paren head.place parts scope
form_value paren head parts Foreign scope = not_in_profile head.place
form_value paren head parts Application scope = unbound_value paren head parts (bound_as scope.bound head.text) scope

-- Lists: the empty list, a list at the head, another token than a symbol at the head, and the forms.
unfoldable pub list_value : Word → Reading → Meaning
list_value paren End scope = bad_form paren.place
list_value paren (Group inner meaning parts trees) scope = not_in_profile inner.place
list_value paren (Token head parts) scope = cond (is_symbol head.kind)
    (form_value paren.place head parts (form_of head.text) scope) (bad_form head.place)

-- Each list in its place gets its meaning, from the inside.
abbrev pub group_reading : Word → Reading → Reading → Reading
group_reading paren inner after = Group paren (list_value paren inner) inner after

unfoldable pub reading : trees.Trees → Reading
reading trees.End = End
reading (trees.Token word after) = Token word (reading after)
reading (trees.Group paren inner after) = group_reading paren (reading inner) (reading after)
