-- Commands: what each one answers, and the state after it.
use Rattle.std.specs.Prelude.{ℕ, ◌+◌, ◌-◌, Option, None, option_map, slice_get, Bool, true}
use Rattle.std.specs.Prelude.{false, cond, not, ◌&&◌, ◌||◌, nat_le, ◌==◌, if◌then◌else◌, List}
use Rattle.std.specs.Prelude.{[], ◌∷◌, ◌++◌, length, Result, Ok, Err, bytes_eq, codes}
use Rattle.std.specs.List.{list_any}
use Rattle.smt_text.specs.Word.{Word}
use Rattle.smt_text.specs.Trees.{tree_of}
use Rattle.smt_text.specs.declared.token.Place.{Place}
use Rattle.graph_terms.specs.Terms.{most_args}
use Rattle.formula_draft.specs.Draft.{Draft, empty_draft, finished}
use Rattle.smt_names.specs.declared.value.Value.{Value}
use Rattle.smt_names.specs.declared.bound.Bound.{Bound}
use Rattle.smt_names.specs.declared.syntax_fault.SyntaxFault.{SyntaxFault}
use Rattle.smt_names.specs.declared.refusal.Refusal.TheVariants as refusal
use Rattle.smt_names.specs.declared.signature.Signature.{Signature}
use Rattle.smt_names.specs.Value.{sort_of, self}
use Rattle.smt_names.specs.Making.{Making, gives, ◌>>=◌, ◌>>◌, must_hold, bad_form, not_in_profile}
use Rattle.smt_names.specs.Names.{State, Scope, Declared, with_sort, with_function, is_symbol}
use Rattle.smt_names.specs.Names.{is_keyword, is_numeral, is_wide, number_of, new_function_name, new_sort_name}
use Rattle.smt_names.specs.Names.{at_start, cleared, pushed, popped}
use Rattle.smt_terms.specs.Reading.{Reading, Listed, End, Token, Group, from}
use Rattle.smt_terms.specs.Reading.{first_place, no_more, at_most, at_least, exactly, token_first}
use Rattle.smt_terms.specs.Reading.{list_first, sort_first, other_sort, bindings_after, no_binding}
use Rattle.smt_terms.specs.Terms.{value, reading, variables_from}
use Rattle.smt_terms.specs.Scopes.{outside, inside_definition, sorts_of}
use Rattle.smt_commands.specs.declared.command.Command.{Command}
use Rattle.smt_commands.specs.declared.command.Command.TheVariants.{Silent, Unsupported, Assert, Push, Pop}
use Rattle.smt_commands.specs.declared.command.Command.TheVariants.{CheckSat, GetInfo, Reset, ResetAssertions, Exit}
use Rattle.smt_commands.specs.declared.named.Named.{Named}
use Rattle.smt_commands.specs.declared.named.Named.TheVariants as named
use Rattle.smt_commands.specs.declared.info.Info.{Info}
use Rattle.smt_commands.specs.declared.info.Info.TheVariants as info

-- what a command answers, with the state after it
pub record Answer : Type 0 where
  pub command : Command
  pub state : State

-- the command changes nothing
abbrev pub answer : State → Command → Making Answer
answer state command = gives (record { command = command; state = state })

abbrev pub silent : State → Making Answer
silent state = answer state Silent

-- Parts of commands.
-- a value of an option or an information: a token that is no keyword, or a list; it may be missing
abbrev pub plain_value : Reading → Making (Unit {0})
plain_value End = gives tt
plain_value (Token word trees) = must_hold (not (is_keyword word.kind || is_wide word)) refusal.BadForm word.place
plain_value (Group paren meaning inner trees) = gives tt

abbrev pub keyword_first : Place → Reading → Making Word
keyword_first head parts = do
  key ← token_first head parts
  must_hold (is_keyword key.kind) refusal.BadForm key.place
  gives key

abbrev pub symbol_first : Place → Reading → Making Word
symbol_first head parts = do
  word ← token_first head parts
  must_hold (is_symbol word.kind) refusal.BadForm word.place
  gives word

-- a numeral of at most 128 bits
abbrev pub numeral_first : Place → Reading → Making ℕ
numeral_first head parts = do
  word ← token_first head parts
  must_hold (is_numeral word.kind && not (is_wide word)) refusal.BadForm word.place
  gives (number_of word)

-- Commands.
-- one symbol
abbrev pub logic_form : Place → Reading → Making Word
logic_form head parts = do
  exactly 1 head parts
  symbol_first head parts

-- (set-logic s)
abbrev pub set_logic : State → Place → Reading → Making Answer
set_logic state head parts = do
  logic_form head parts
  silent state

-- true or false
abbrev pub truth_named : Word → Making Bool
truth_named v =
    if bytes_eq v.text (codes "true") then gives true else
    if bytes_eq v.text (codes "false") then gives false else bad_form v.place

abbrev pub truth_first : Place → Reading → Making Bool
truth_first head parts = do
  v ← symbol_first head parts
  truth_named v

-- (set-option :print-success v)
abbrev pub set_print_success : State → Place → Reading → Making Answer
set_print_success state head parts = do
  prints ← truth_first head parts
  silent (record state { prints_success = prints })

-- an option that is not supported
abbrev pub set_other : State → Reading → Making Answer
set_other state parts = do
  plain_value parts
  answer state Unsupported

abbrev pub set_by : State → Place → Reading → (is_success : Bool) → Making Answer
set_by state head parts true = set_print_success state head parts
set_by state head parts false = set_other state parts

-- a keyword, and perhaps one part more
abbrev pub one_or_two : Place → Reading → Making (Unit {0})
one_or_two head parts = do
  at_least 1 head parts
  at_most 2 parts

abbrev pub key_form : Place → Reading → Making Word
key_form head parts = do
  one_or_two head parts
  keyword_first head parts

-- (set-option :k v)
abbrev pub set_option : State → Place → Reading → Making Answer
set_option state head parts = do
  key ← key_form head parts
  set_by state head (from 1 parts) (bytes_eq key.text (codes ":print-success"))

-- a keyword, and perhaps its value
abbrev pub info_form : Place → Reading → Making (Unit {0})
info_form head parts = do
  key_form head parts
  plain_value (from 1 parts)

-- (set-info :k v)
abbrev pub set_info : State → Place → Reading → Making Answer
set_info state head parts = do
  info_form head parts
  silent state

-- the number of arguments of a sort, which must be 0
abbrev pub no_arguments : Place → Reading → Making (Unit {0})
no_arguments head parts = do
  n ← numeral_first head parts
  must_hold (n == 0) refusal.NotInProfile (first_place head parts)

-- the first part, which may be the name of a sort
abbrev pub new_sort : State → Place → Reading → Making Word
new_sort state head parts = do
  name ← token_first head parts
  new_sort_name state name
  gives name

abbrev pub plain_sort : State → Place → Reading → Making Word
plain_sort state head parts = do
  name ← new_sort state head parts
  no_arguments head (from 1 parts)
  gives name

-- a new name and 0
abbrev pub sort_form : State → Place → Reading → Making Word
sort_form state head parts = do
  exactly 2 head parts
  plain_sort state head parts

-- (declare-sort s n)
abbrev pub declare_sort : State → Place → Reading → Making Answer
declare_sort state head parts = do
  name ← sort_form state head parts
  silent (with_sort name.text state)

-- sorts other than Bool, to the end of a list
abbrev pub other_sorts : State → Place → Reading → Making (List ℕ)
other_sorts state paren End = gives []
other_sorts state paren (Token word trees) = do
  sort ← other_sort state paren (Token word trees)
  sorts ← other_sorts state paren trees
  gives (sort ∷ sorts)
other_sorts state paren (Group p meaning inner trees) = do
  sort ← other_sort state paren (Group p meaning inner trees)
  sorts ← other_sorts state paren trees
  gives (sort ∷ sorts)

abbrev pub signature : List ℕ → ℕ → Signature
signature arguments sort = record { arguments = arguments; sort = sort }

-- the first part, which may be the name of a function
abbrev pub new_function : State → Place → Reading → Making Word
new_function state head parts = do
  name ← token_first head parts
  new_function_name state name
  gives name

-- so many parts, of which the first may be the name of a function
abbrev pub named_form : ℕ → State → Place → Reading → Making Word
named_form n state head parts = do
  exactly n head parts
  new_function state head parts

-- sorts of arguments, no more than an application may have
abbrev pub argument_sorts : State → Listed → Making (List ℕ)
argument_sorts state listed = do
  no_more refusal.TooManyArguments (from most_args listed.inner)
  other_sorts state listed.paren.place listed.inner

-- the list of the sorts of arguments that a first tree must be
abbrev pub arguments_first : State → Place → Reading → Making (List ℕ)
arguments_first state head parts = do
  listed ← list_first head parts
  argument_sorts state listed

-- the sorts of a function: a list of those of its arguments, and behind it its own
abbrev pub signature_first : State → Place → Reading → Making Signature
signature_first state head parts = do
  arguments ← arguments_first state head parts
  sort ← sort_first state head (from 1 parts)
  gives (signature arguments sort)

-- (declare-fun s (S1 .. Sn) S)
abbrev pub declare_fun : State → Place → Reading → Making Answer
declare_fun state head parts = do
  name ← named_form 3 state head parts
  sorts ← signature_first state head (from 1 parts)
  silent (with_function name.text sorts state)

-- the sorts of a constant: its own, which a first tree must name
abbrev pub constant_first : State → Place → Reading → Making Signature
constant_first state head parts = do
  sort ← sort_first state head parts
  gives (signature [] sort)

-- (declare-const s S)
abbrev pub declare_const : State → Place → Reading → Making Answer
declare_const state head parts = do
  name ← named_form 2 state head parts
  sorts ← constant_first state head (from 1 parts)
  silent (with_function name.text sorts state)

abbrev pub defined : State → List ℕ → List Bound → ℕ → Value → Making Answer
defined state name parameters sort v draft = silent (record state {
  definitions = state.definitions
      ++ record {
        name = name;
        parameters = sorts_of parameters;
        sort = sort;
        rows = draft.rows;
        nodes = draft.nodes;
        value = v;
      } ∷ [];
}) draft

-- bindings, no more than an application may have arguments
abbrev pub few_bindings : Reading → Making (Unit {0})
few_bindings trees = do
  bindings_after [] trees
  no_binding refusal.TooManyArguments (from most_args trees)

abbrev pub parameters_of : State → Reading → Making (List Bound)
parameters_of state trees = do
  few_bindings trees
  variables_from state 0 trees

-- the list of parameters that a first tree must be
abbrev pub parameters_first : State → Place → Reading → Making (List Bound)
parameters_first state head parts = do
  listed ← list_first head parts
  parameters_of state listed.inner

-- the value of the first tree, which must have this sort
abbrev pub sorted_value : Place → Scope → (sort : ℕ) → Reading → Making Value
sorted_value head scope sort parts = do
  v ← value head scope parts
  must_hold (sort_of v == sort) refusal.WrongSort (first_place head parts)
  gives v

-- what is defined of these parameters
abbrev pub defined_by : State → Place → (name : List ℕ) → List Bound → (sorted given : Reading) → Making Answer
defined_by state head name parameters sorted given = do
  sort ← sort_first state head sorted
  v ← sorted_value head (inside_definition state parameters) sort given
  defined state name parameters sort v

-- (define-fun s ((x1 S1) ..) S t)
abbrev pub define_fun : State → Place → Reading → Making Answer
define_fun state head parts = do
  name ← named_form 4 state head parts
  parameters ← parameters_first state head (from 1 parts)
  defined_by state head name.text parameters (from 2 parts) (from 3 parts)

abbrev pub asserted : State → Value → Making Answer
asserted state v draft = answer state (Assert (finished draft (self v))) draft

abbrev pub asserted_term : State → Place → Reading → Making Answer
asserted_term state head parts = do
  v ← sorted_value head (outside state) 0 parts
  asserted state v

-- (assert t): its sort is Bool
abbrev pub assert_truth : State → Place → Reading → Making Answer
assert_truth state head parts = do
  exactly 1 head parts
  asserted_term state head parts

-- how many levels are asked for, 1 where no number stands
abbrev pub levels_asked : Place → Reading → Making ℕ
levels_asked head End = gives 1
levels_asked head (Token word trees) = numeral_first head (Token word trees)
levels_asked head (Group paren meaning inner trees) = bad_form paren.place

-- at most one part, how many levels are asked for
abbrev pub level_form : Place → Reading → Making ℕ
level_form head parts = do
  at_most 1 parts
  levels_asked head parts

-- as many levels as may be opened
abbrev pub push_form : State → Place → Reading → Making ℕ
push_form state head parts = do
  n ← level_form head parts
  must_hold (nat_le (length state.levels + n) state.limits.levels) refusal.LevelsFull (first_place head parts)
  gives n

-- (push n)
abbrev pub push_levels : State → Place → Reading → Making Answer
push_levels state head parts = do
  n ← push_form state head parts
  answer (pushed n state) (Push n)

-- as many levels as may be closed
abbrev pub pop_form : State → Place → Reading → Making ℕ
pop_form state head parts = do
  n ← level_form head parts
  must_hold (nat_le n (length state.levels)) refusal.PopTooFar (first_place head parts)
  gives n

-- (pop n)
abbrev pub pop_levels : State → Place → Reading → Making Answer
pop_levels state head parts = do
  n ← pop_form state head parts
  answer (popped n state) (Pop n)

unfoldable pub info_of : List ℕ → Info
info_of key =
    if bytes_eq key (codes ":name") then info.Name else
    if bytes_eq key (codes ":version") then info.Version else
    if bytes_eq key (codes ":authors") then info.Authors else
    if bytes_eq key (codes ":error-behavior") then info.ErrorBehavior else
    if bytes_eq key (codes ":assertion-stack-levels") then info.Levels else
    if bytes_eq key (codes ":reason-unknown") then info.ReasonUnknown else info.Other

-- one keyword
abbrev pub asked_form : Place → Reading → Making Word
asked_form head parts = do
  exactly 1 head parts
  keyword_first head parts

-- (get-info :k)
abbrev pub get_info : State → Place → Reading → Making Answer
get_info state head parts = do
  key ← asked_form head parts
  answer state (GetInfo (info_of key.text))

-- a command without parts
abbrev pub alone : Command → State → Reading → Making Answer
alone command state parts = do
  at_most 0 parts
  answer state command

-- commands that are answered as not supported, whatever their parts are
abbrev pub unsupported_names : List (List ℕ)
unsupported_names = codes "check-sat-assuming" ∷ codes "echo" ∷ codes "get-assertions" ∷ codes "get-assignment"
    ∷ codes "get-model" ∷ codes "get-option" ∷ codes "get-proof" ∷ codes "get-unsat-assumptions"
    ∷ codes "get-unsat-core" ∷ codes "get-value" ∷ []

-- commands that are refused
abbrev pub foreign_names : List (List ℕ)
foreign_names = codes "declare-datatype" ∷ codes "declare-datatypes" ∷ codes "define-fun-rec"
    ∷ codes "define-funs-rec" ∷ codes "define-sort" ∷ []

abbrev pub is_in : List (List ℕ) → List ℕ → Bool
is_in names name = list_any (bytes_eq name) names

unfoldable pub is_unsupported : List ℕ → Bool
is_unsupported name = is_in unsupported_names name

unfoldable pub is_foreign : List ℕ → Bool
is_foreign name = is_in foreign_names name

unfoldable pub other_command : List ℕ → Named
other_command name = if is_unsupported name then named.Unsupported else if is_foreign name then named.Foreign else
    named.Unknown

-- The names of the commands that are read.
abbrev pub named_so : List ℕ → Named
named_so name =
    if bytes_eq name (codes "set-logic") then named.SetLogic else
    if bytes_eq name (codes "set-option") then named.SetOption else
    if bytes_eq name (codes "set-info") then named.SetInfo else
    if bytes_eq name (codes "declare-sort") then named.DeclareSort else
    if bytes_eq name (codes "declare-fun") then named.DeclareFun else
    if bytes_eq name (codes "declare-const") then named.DeclareConst else
    if bytes_eq name (codes "define-fun") then named.DefineFun else
    if bytes_eq name (codes "assert") then named.Assert else
    if bytes_eq name (codes "push") then named.Push else
    if bytes_eq name (codes "pop") then named.Pop else
    if bytes_eq name (codes "check-sat") then named.CheckSat else
    if bytes_eq name (codes "get-info") then named.GetInfo else
    if bytes_eq name (codes "reset") then named.Reset else
    if bytes_eq name (codes "reset-assertions") then named.ResetAssertions else
    if bytes_eq name (codes "exit") then named.Exit else other_command name

unfoldable pub command_named : List ℕ → Named
command_named name = named_so name

-- one line for each command
abbrev pub headed : State → Place → Reading → Named → Making Answer
headed state head parts named.SetLogic = set_logic state head parts
headed state head parts named.SetOption = set_option state head parts
headed state head parts named.SetInfo = set_info state head parts
headed state head parts named.DeclareSort = declare_sort state head parts
headed state head parts named.DeclareFun = declare_fun state head parts
headed state head parts named.DeclareConst = declare_const state head parts
headed state head parts named.DefineFun = define_fun state head parts
headed state head parts named.Assert = assert_truth state head parts
headed state head parts named.Push = push_levels state head parts
headed state head parts named.Pop = pop_levels state head parts
headed state head parts named.CheckSat = alone CheckSat state parts
headed state head parts named.GetInfo = get_info state head parts
headed state head parts named.Reset = alone Reset (at_start state.limits) parts
headed state head parts named.ResetAssertions = alone ResetAssertions (cleared state) parts
headed state head parts named.Exit = alone Exit state parts
headed state head parts named.Unsupported = answer state Unsupported
headed state head parts named.Foreign = not_in_profile head
headed state head parts named.Unknown = bad_form head

-- a command is a list whose first tree is a symbol
abbrev pub command_of : State → Place → Reading → Making Answer
command_of state paren End = bad_form paren
command_of state paren (Group inner meaning parts trees) = bad_form inner.place
command_of state paren (Token head parts) = cond (is_symbol head.kind)
    (headed state head.place parts (command_named head.text)) (bad_form head.place)

-- the name of a symbol: those of functions count from 2
abbrev pub symbol_name : State → ℕ → Option (List ℕ)
symbol_name state symbol = cond (nat_le 2 symbol) (option_map (λ (f : Declared). f.name)
    (slice_get state.functions (symbol - 2))) None

-- the place where scripts begin
abbrev pub start : Place
start = record { line = 1; column = 1 }

abbrev pub command_at : State → Reading → Making Answer
command_at state (Group paren meaning inner after) = command_of state paren.place inner
command_at state (Token word after) = bad_form word.place
command_at state End = bad_form start

abbrev pub without_draft : Result (Answer × Draft) SyntaxFault → Result Answer SyntaxFault
without_draft (Ok done) = Ok done.0
without_draft (Err fault) = Err fault

-- What is answered in a state, where no formula is begun.
abbrev pub begun : State → Making Answer → Result Answer SyntaxFault
begun state making = without_draft (making (empty_draft state.limits.terms state.limits.nodes))

-- What a command, a list of tokens, answers in a state, or its first refusal.
unfoldable pub elaborate : State → List Word → Result Answer SyntaxFault
elaborate state words = begun state (command_at state (reading (tree_of words)))
