-- Names, sorts, and what a name stands for.
use Rattle.std.specs.Prelude.{◌≡◌, ℕ, ◌+◌, ◌-◌, ◌*◌, ◌^◌, Bool, true, false, cond, not}
use Rattle.std.specs.Prelude.{◌&&◌, ◌||◌, nat_le, ◌==◌, List, [], ◌∷◌, ◌++◌, length, take, get_or}
use Rattle.std.specs.Prelude.{slice_get, replicate, Option, Some, None, is_some, option_map, bytes_eq, codes}
use Rattle.std.specs.List.{position_from, list_any}
use Rattle.smt_text.specs.Word.{Word}
use Rattle.smt_text.specs.declared.token.Kind.{Kind}
use Rattle.smt_text.specs.declared.token.Kind.TheVariants.{Symbol, Keyword, Numeral}
use Rattle.smt_text.specs.declared.token.Place.{Place}
use Rattle.em_outside.specs.declared.limits.Limits.{Limits}
use Rattle.formula_draft.specs.declared.draft_row.DraftRow.{DraftRow}
use Rattle.formula_draft.specs.declared.draft_node.DraftNode.{DraftNode}
use Rattle.smt_names.specs.declared.connective.Connective.{Connective}
use Rattle.smt_names.specs.declared.connective.Connective.TheVariants as core
use Rattle.smt_names.specs.declared.value.Value.{Value}
use Rattle.smt_names.specs.declared.bound.Bound.{Bound}
use Rattle.smt_names.specs.declared.stands.Stands.{Stands}
use Rattle.smt_names.specs.declared.signature.Signature.{Signature}
use Rattle.smt_names.specs.declared.definition.Definition as definition
use Rattle.smt_names.specs.declared.level.Level.{Level}
use Rattle.smt_names.specs.declared.head.Head.{Head}
use Rattle.smt_names.specs.declared.head.Head.TheVariants as head
use Rattle.smt_names.specs.declared.refusal.Refusal.TheVariants.{BadForm, NotInProfile, UnknownName, AlreadyDeclared}
use Rattle.smt_names.specs.Making.{Making, gives, ◌>>=◌, ◌>>◌, must_hold}
use Rattle.smt_names.specs.Making.{must_hold_named, refuse_named, bad_form, not_in_profile}

-- a declared function: its name, the sorts of its arguments, and the sort of its value
pub record Declared : Type 0 where
  pub name : List ℕ
  pub arguments : List ℕ
  pub sort : ℕ

-- a definition: its name, the sorts of its parameters, its sort, its rows, in which parameter i is variable i, its
-- nodes and its value
pub record Defined : Type 0 where
  pub name : List ℕ
  pub parameters : List ℕ
  pub sort : ℕ
  pub rows : List DraftRow
  pub nodes : List DraftNode
  pub value : Value

-- What stands between two commands: the limits, whether success is printed, the sorts, functions and definitions in
-- the order of their declarations, and for each open level what stood when it was opened, the oldest level first.
pub record State : Type 0 where
  pub limits : Limits
  pub prints_success : Bool
  pub sorts : List (List ℕ)
  pub functions : List Declared
  pub definitions : List Defined
  pub levels : List Level

-- where a term stands: the state, the bound names, of which the last wins, and whether it is inside a forall or a
-- definition
pub record Scope : Type 0 where
  pub state : State
  pub bound : List Bound
  pub in_forall : Bool
  pub in_definition : Bool

-- The core theory.
abbrev pub core_name : Connective → List ℕ
core_name core.True = codes "true"
core_name core.False = codes "false"
core_name core.Not = codes "not"
core_name core.And = codes "and"
core_name core.Or = codes "or"
core_name core.Implies = codes "=>"
core_name core.Xor = codes "xor"
core_name core.Equals = codes "="
core_name core.Distinct = codes "distinct"
core_name core.Ite = codes "ite"

abbrev pub all_connectives : List Connective
all_connectives = core.True ∷ core.False ∷ core.Not ∷ core.And ∷ core.Or ∷ core.Implies ∷ core.Xor ∷ core.Equals
    ∷ core.Distinct ∷ core.Ite ∷ []

-- the first that passes
abbrev pub first_with : {A : Type 0} → (A → Bool) → List A → Option A
first_with test [] = None
first_with test (x ∷ xs) = cond (test x) (Some x) (first_with test xs)

-- what a name of the core theory stands for
unfoldable pub connective : List ℕ → Option Connective
connective name = first_with (λ c. bytes_eq name (core_name c)) all_connectives

-- Bound names.
abbrev pub keep_last : {A : Type 0} → Bool → A → Option A → Option A
keep_last passes x (Some y) = Some y
keep_last passes x None = cond passes (Some x) None

-- the last that passes
abbrev pub last_with : {A : Type 0} → (A → Bool) → List A → Option A
last_with test [] = None
last_with test (x ∷ xs) = keep_last (test x) x (last_with test xs)

-- the last binding of a name
abbrev pub bound_as : List Bound → List ℕ → Option Bound
bound_as bound name = last_with (λ b. bytes_eq name b.name) bound

-- a name, bound to what it stands for
abbrev pub bound_of : List ℕ → Stands → Bound
bound_of name stands = record { name = name; stands = stands }

-- Names that are not bound.
abbrev pub function_at : List ℕ → List Declared → Option ℕ
function_at name functions = position_from (λ f. bytes_eq name f.name) 0 functions

abbrev pub definition_at : List ℕ → List Defined → Option ℕ
definition_at name definitions = position_from (λ d. bytes_eq name d.name) 0 definitions

abbrev pub or_core : Option Connective → Head → Head
or_core (Some c) or_else = head.Core c
or_core None or_else = or_else

abbrev pub or_function : Option ℕ → Head → Head
or_function (Some n) or_else = head.Function n
or_function None or_else = or_else

abbrev pub or_definition : Option ℕ → Head
or_definition (Some n) = head.Definition n
or_definition None = head.Unknown

-- where a name that is not bound stands: in the core theory, else among the functions, else among the definitions
abbrev pub head_of : State → List ℕ → Head
head_of state name = or_core (connective name) (or_function (function_at name state.functions)
    (or_definition (definition_at name state.definitions)))

-- What a name stands for that is not bound: a name of the core theory, a declared function with its symbol, or a
-- definition.
pub data Named : Type 0 where
  Core : Connective → Named
  Function : (symbol : ℕ) → Declared → Named
  Definition : Defined → Named
  Unknown : Named

abbrev pub function_of : ℕ → Option Declared → Named
function_of symbol None = Unknown
function_of symbol (Some f) = Function symbol f

abbrev pub definition_of : Option Defined → Named
definition_of None = Unknown
definition_of (Some d) = Definition d

-- what stands there: the symbols of functions count from 2, after those of true and false
abbrev pub named_by : State → Head → Named
named_by state (head.Core c) = Core c
named_by state (head.Function n) = function_of (n + 2) (slice_get state.functions n)
named_by state (head.Definition n) = definition_of (slice_get state.definitions n)
named_by state head.Unknown = Unknown

-- whether something stands there
abbrev pub is_head : Head → Bool
is_head head.Unknown = false
is_head h = true

-- what a name stands for that is not bound
abbrev pub named : State → List ℕ → Named
named state name = named_by state (head_of state name)

abbrev pub is_known : Named → Bool
is_known Unknown = false
is_known name = true

-- Kinds of tokens.
abbrev pub is_symbol : Kind → Bool
is_symbol Symbol = true
is_symbol kind = false

abbrev pub is_keyword : Kind → Bool
is_keyword Keyword = true
is_keyword kind = false

abbrev pub is_numeral : Kind → Bool
is_numeral Numeral = true
is_numeral kind = false

-- the number that decimal digits stand for, after others
abbrev pub number_from : ℕ → List ℕ → ℕ
number_from so_far [] = so_far
number_from so_far (digit ∷ digits) = number_from (10 * so_far + (digit - 48)) digits

abbrev pub number_of : Word → ℕ
number_of word = number_from 0 word.text

-- a numeral of more than 128 bits
abbrev pub is_wide : Word → Bool
is_wide word = is_numeral word.kind && nat_le (2 ^ 128) (number_of word)

-- a token, by its kind, its place and its text
abbrev pub word_of : Kind → Place → List ℕ → Word
word_of kind place text = record { kind = kind; place = place; text = text }

-- Lawful names.
-- the eight names that are never declared, defined or bound
abbrev pub reserved_names : List (List ℕ)
reserved_names = codes "!" ∷ codes "_" ∷ codes "as" ∷ codes "exists" ∷ codes "forall" ∷ codes "let" ∷ codes "match"
    ∷ codes "par" ∷ []

unfoldable pub is_reserved : List ℕ → Bool
is_reserved name = list_any (bytes_eq name) reserved_names

-- a name that may be bound: a symbol that is none of the eight
abbrev pub lawful_name : Word → Making (Unit {0})
lawful_name word = must_hold (is_symbol word.kind && not (is_reserved word.text)) BadForm word.place

abbrev pub begins_with : List ℕ → ℕ → Bool
begins_with [] b = false
begins_with (a ∷ name) b = a == b

-- names that begin with @ or . are left to solvers
abbrev pub is_solver_name : List ℕ → Bool
is_solver_name name = begins_with name 64 || begins_with name 46

-- a name that may be declared or defined
abbrev pub new_name : Word → Making (Unit {0})
new_name word = do
  lawful_name word
  must_hold (not (is_solver_name word.text)) BadForm word.place

-- a name that a function or a definition may get: it stands for nothing
abbrev pub new_function_name : State → Word → Making (Unit {0})
new_function_name state word = do
  new_name word
  must_hold_named (not (is_known (named state word.text))) AlreadyDeclared word.place word.text

-- Sorts.
-- the number of a sort: Bool is 0, and the declared sorts count from 1
abbrev pub sort_at_place : Option ℕ → Option ℕ
sort_at_place place = option_map (λ n. n + 1) place

abbrev pub sort_number : State → List ℕ → Option ℕ
sort_number state name = cond (bytes_eq name (codes "Bool")) (Some 0)
    (sort_at_place (position_from (bytes_eq name) 0 state.sorts))

-- a name that a sort may get
abbrev pub new_sort_name : State → Word → Making (Unit {0})
new_sort_name state word = do
  new_name word
  must_hold_named (not (is_some (sort_number state word.text))) AlreadyDeclared word.place word.text

abbrev pub known_sort : Word → Option ℕ → Making ℕ
known_sort word None = refuse_named UnknownName word.place word.text
known_sort word (Some sort) = gives sort

-- the sort that a token names
abbrev pub sort_of_token : State → Word → Making ℕ
sort_of_token state word = cond (is_symbol word.kind) (known_sort word (sort_number state word.text))
    (bad_form word.place)

-- the sort that a token names, where Bool is not supported
abbrev pub other_sort_of_token : State → Word → Making ℕ
other_sort_of_token state word = do
  sort ← sort_of_token state word
  must_hold (not (sort == 0)) NotInProfile word.place
  gives sort

-- Changes of the state.
-- the sorts of a declared function
abbrev pub signature_of : Declared → Signature
signature_of f = record { arguments = f.arguments; sort = f.sort }

-- a sort more
abbrev pub with_sort : List ℕ → State → State
with_sort name state = record state { sorts = state.sorts ++ name ∷ [] }

-- a function with these sorts, under its name
abbrev pub declared_as : List ℕ → Signature → Declared
declared_as name signature = record { name = name; arguments = signature.arguments; sort = signature.sort }

-- a function more
abbrev pub with_function : List ℕ → Signature → State → State
with_function name signature state = record state { functions = state.functions ++ declared_as name signature ∷ [] }

-- a definition under its name
abbrev pub defined_as : List ℕ → definition.Definition → Defined
defined_as name d = record {
  name = name;
  parameters = d.parameters;
  sort = d.sort;
  rows = d.draft.rows;
  nodes = d.draft.nodes;
  value = d.value;
}

-- the definition that stands there under some name, or none
abbrev pub DefinedAt : Option Defined → Option definition.Definition → Type 0
DefinedAt there None = there ≡ None
DefinedAt there (Some d) = (name : List ℕ) × (there ≡ Some (defined_as name d))

-- a definition more
abbrev pub with_definition : List ℕ → definition.Definition → State → State
with_definition name d state = record state { definitions = state.definitions ++ defined_as name d ∷ [] }

-- nothing declared
abbrev pub at_start : Limits → State
at_start limits = record {
  limits = limits;
  prints_success = false;
  sorts = [];
  functions = [];
  definitions = [];
  levels = [];
}

-- nothing declared, and the options as they are
abbrev pub cleared : State → State
cleared state = record (at_start state.limits) { prints_success = state.prints_success }

-- what stands
abbrev pub level_of : State → Level
level_of state = record {
  sorts = length state.sorts;
  functions = length state.functions;
  definitions = length state.definitions;
}

-- n levels more
abbrev pub pushed : ℕ → State → State
pushed n state = record state { levels = state.levels ++ replicate n (level_of state) }

-- what stood when a level was opened
abbrev pub back_to : State → Level → List Level → State
back_to state level levels = record state {
  sorts = take level.sorts state.sorts;
  functions = take level.functions state.functions;
  definitions = take level.definitions state.definitions;
  levels = levels;
}

-- n levels less: what stood when the last of them was opened
abbrev pub popped : ℕ → State → State
popped n state = let kept = length state.levels - n in
    back_to state (get_or state.levels kept (level_of state)) (take kept state.levels)
