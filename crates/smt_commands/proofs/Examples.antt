-- What commands answer, and where each refusal comes. The column of a token is its number.
use Rattle.std.proofs.Common.{◌≡◌, ℕ, ◌+◌, List, [], ◌∷◌, ◌++◌, true, false, Some, Ok, Err, refl, codes}
use Rattle.smt_text.specs.Word.{Word}
use Rattle.smt_text.specs.declared.token.Kind.{Kind}
use Rattle.smt_text.specs.declared.token.Kind.TheVariants.{Left, Right, Symbol, Keyword, Numeral, Text}
use Rattle.smt_text.specs.Trees.{ahead}
use Rattle.em_outside.specs.declared.limits.Limits.{Limits}
use Rattle.graph_trigger.specs.declared.pattern_row.PatternRow.TheVariants as pattern
use Rattle.formula_draft.specs.declared.draft_row.DraftRow.TheVariants.{Var, App}
use Rattle.formula_draft.specs.declared.draft_node.DraftNode.TheVariants.{Equal, Atom, Forall}
use Rattle.smt_names.specs.declared.value.Value.TheVariants.{Formula}
use Rattle.smt_names.specs.declared.refusal.Refusal.{Refusal}
use Rattle.smt_names.specs.declared.refusal.Refusal.TheVariants as refusal
use Rattle.smt_names.specs.Names.{State, at_start, pushed, connective, is_reserved}
use Rattle.smt_forms.specs.Nodes.{connected}
use Rattle.smt_forms.specs.Applied.{applied}
use Rattle.smt_terms.specs.Terms.{reading, list_value, form_of, token_value}
use Rattle.smt_commands.specs.declared.command.Command.{Command}
use Rattle.smt_commands.specs.declared.command.Command.TheVariants.{Silent, Unsupported, Assert, Push, Pop, CheckSat, GetInfo, Reset, ResetAssertions, Exit}
use Rattle.smt_commands.specs.declared.info.Info.TheVariants as info
use Rattle.smt_commands.specs.Commands.{elaborate, command_named, other_command, is_unsupported, is_foreign, info_of}

abbrev Piece : Type 0
Piece = Kind × List ℕ

abbrev left : Piece
left = (Left, [])

abbrev right : Piece
right = (Right, [])

abbrev string : Piece
string = (Text, [])

abbrev sym : List ℕ → Piece
sym text = (Symbol, text)

abbrev key : List ℕ → Piece
key text = (Keyword, text)

abbrev num : List ℕ → Piece
num text = (Numeral, text)

abbrev numbered : ℕ → List Piece → List Word
numbered n [] = []
numbered n (piece ∷ pieces) = record { kind = piece.0; place = record { line = 1; column = n }; text = piece.1 } ∷ numbered (n + 1) pieces

abbrev few : Limits
few = record { terms = 100; nodes = 100; bytes = 100; depth = 100; levels = 2 }

abbrev fresh : State
fresh = at_start few

-- a sort, a constant, a function and a predicate
abbrev uf : State
uf = record fresh { sorts = codes "U" ∷ []; functions = record { name = codes "a"; arguments = []; sort = 1 } ∷ record { name = codes "f"; arguments = 1 ∷ []; sort = 1 } ∷ record { name = codes "p"; arguments = 1 ∷ []; sort = 0 } ∷ [] }

abbrev Refused : State → List Piece → Refusal → ℕ → List ℕ → Type 0
Refused state pieces refusal column name = elaborate state (numbered 1 pieces) ≡ Err (record { refusal = refusal; place = record { line = 1; column = column }; name = name })

abbrev Answers : State → List Piece → Command → State → Type 0
Answers state pieces command after = elaborate state (numbered 1 pieces) ≡ Ok (record { command = command; state = after })

-- ( set-logic UF )
logic : Answers fresh (left ∷ sym (codes "set-logic") ∷ sym (codes "UF") ∷ right ∷ []) (Silent) (fresh)
unfolding elaborate command_named other_command is_unsupported is_foreign info_of reading list_value form_of token_value is_reserved connective applied connected ahead
logic = refl

-- ( set-logic )
logic_missing : Refused fresh (left ∷ sym (codes "set-logic") ∷ right ∷ []) refusal.BadForm 2 ([])
unfolding elaborate command_named other_command is_unsupported is_foreign info_of reading list_value form_of token_value is_reserved connective applied connected ahead
logic_missing = refl

-- ( set-logic UF x )
logic_more : Refused fresh (left ∷ sym (codes "set-logic") ∷ sym (codes "UF") ∷ sym (codes "x") ∷ right ∷ []) refusal.BadForm 4 ([])
unfolding elaborate command_named other_command is_unsupported is_foreign info_of reading list_value form_of token_value is_reserved connective applied connected ahead
logic_more = refl

-- ( set-logic 5 )
logic_number : Refused fresh (left ∷ sym (codes "set-logic") ∷ num (codes "5") ∷ right ∷ []) refusal.BadForm 3 ([])
unfolding elaborate command_named other_command is_unsupported is_foreign info_of reading list_value form_of token_value is_reserved connective applied connected ahead
logic_number = refl

-- ( set-option :print-success true )
prints : Answers fresh (left ∷ sym (codes "set-option") ∷ key (codes ":print-success") ∷ sym (codes "true") ∷ right ∷ []) (Silent) (record fresh { prints_success = true })
unfolding elaborate command_named other_command is_unsupported is_foreign info_of reading list_value form_of token_value is_reserved connective applied connected ahead
prints = refl

-- ( set-option :print-success x )
prints_other : Refused fresh (left ∷ sym (codes "set-option") ∷ key (codes ":print-success") ∷ sym (codes "x") ∷ right ∷ []) refusal.BadForm 4 ([])
unfolding elaborate command_named other_command is_unsupported is_foreign info_of reading list_value form_of token_value is_reserved connective applied connected ahead
prints_other = refl

-- ( set-option :print-success )
prints_nothing : Refused fresh (left ∷ sym (codes "set-option") ∷ key (codes ":print-success") ∷ right ∷ []) refusal.BadForm 2 ([])
unfolding elaborate command_named other_command is_unsupported is_foreign info_of reading list_value form_of token_value is_reserved connective applied connected ahead
prints_nothing = refl

-- ( set-option x y z )
option_more : Refused fresh (left ∷ sym (codes "set-option") ∷ sym (codes "x") ∷ sym (codes "y") ∷ sym (codes "z") ∷ right ∷ []) refusal.BadForm 5 ([])
unfolding elaborate command_named other_command is_unsupported is_foreign info_of reading list_value form_of token_value is_reserved connective applied connected ahead
option_more = refl

-- ( set-option 5 6 )
option_number : Refused fresh (left ∷ sym (codes "set-option") ∷ num (codes "5") ∷ num (codes "6") ∷ right ∷ []) refusal.BadForm 3 ([])
unfolding elaborate command_named other_command is_unsupported is_foreign info_of reading list_value form_of token_value is_reserved connective applied connected ahead
option_number = refl

-- ( set-option :seed 6 )
option : Answers fresh (left ∷ sym (codes "set-option") ∷ key (codes ":seed") ∷ num (codes "6") ∷ right ∷ []) (Unsupported) (fresh)
unfolding elaborate command_named other_command is_unsupported is_foreign info_of reading list_value form_of token_value is_reserved connective applied connected ahead
option = refl

-- ( set-option :seed :x )
option_keyword : Refused fresh (left ∷ sym (codes "set-option") ∷ key (codes ":seed") ∷ key (codes ":x") ∷ right ∷ []) refusal.BadForm 4 ([])
unfolding elaborate command_named other_command is_unsupported is_foreign info_of reading list_value form_of token_value is_reserved connective applied connected ahead
option_keyword = refl

-- ( set-info :status ( a b ) )
information : Answers fresh (left ∷ sym (codes "set-info") ∷ key (codes ":status") ∷ left ∷ sym (codes "a") ∷ sym (codes "b") ∷ right ∷ right ∷ []) (Silent) (fresh)
unfolding elaborate command_named other_command is_unsupported is_foreign info_of reading list_value form_of token_value is_reserved connective applied connected ahead
information = refl

-- ( set-info :status :x )
information_keyword : Refused fresh (left ∷ sym (codes "set-info") ∷ key (codes ":status") ∷ key (codes ":x") ∷ right ∷ []) refusal.BadForm 4 ([])
unfolding elaborate command_named other_command is_unsupported is_foreign info_of reading list_value form_of token_value is_reserved connective applied connected ahead
information_keyword = refl

-- ( declare-sort U 0 )
sort : Answers fresh (left ∷ sym (codes "declare-sort") ∷ sym (codes "U") ∷ num (codes "0") ∷ right ∷ []) (Silent) (record fresh { sorts = codes "U" ∷ [] })
unfolding elaborate command_named other_command is_unsupported is_foreign info_of reading list_value form_of token_value is_reserved connective applied connected ahead
sort = refl

-- ( declare-sort U 1 )
sort_one : Refused fresh (left ∷ sym (codes "declare-sort") ∷ sym (codes "U") ∷ num (codes "1") ∷ right ∷ []) refusal.NotInProfile 4 ([])
unfolding elaborate command_named other_command is_unsupported is_foreign info_of reading list_value form_of token_value is_reserved connective applied connected ahead
sort_one = refl

-- ( declare-sort U 0 )
sort_twice : Refused uf (left ∷ sym (codes "declare-sort") ∷ sym (codes "U") ∷ num (codes "0") ∷ right ∷ []) refusal.AlreadyDeclared 3 (codes "U")
unfolding elaborate command_named other_command is_unsupported is_foreign info_of reading list_value form_of token_value is_reserved connective applied connected ahead
sort_twice = refl

-- ( declare-sort Bool 0 )
sort_bool : Refused fresh (left ∷ sym (codes "declare-sort") ∷ sym (codes "Bool") ∷ num (codes "0") ∷ right ∷ []) refusal.AlreadyDeclared 3 (codes "Bool")
unfolding elaborate command_named other_command is_unsupported is_foreign info_of reading list_value form_of token_value is_reserved connective applied connected ahead
sort_bool = refl

-- ( declare-sort @x 0 )
sort_solver : Refused fresh (left ∷ sym (codes "declare-sort") ∷ sym (codes "@x") ∷ num (codes "0") ∷ right ∷ []) refusal.BadForm 3 ([])
unfolding elaborate command_named other_command is_unsupported is_foreign info_of reading list_value form_of token_value is_reserved connective applied connected ahead
sort_solver = refl

-- ( declare-sort U x )
sort_symbol : Refused fresh (left ∷ sym (codes "declare-sort") ∷ sym (codes "U") ∷ sym (codes "x") ∷ right ∷ []) refusal.BadForm 4 ([])
unfolding elaborate command_named other_command is_unsupported is_foreign info_of reading list_value form_of token_value is_reserved connective applied connected ahead
sort_symbol = refl

-- ( declare-fun 5 ( ) U U )
function_more : Refused uf (left ∷ sym (codes "declare-fun") ∷ num (codes "5") ∷ left ∷ right ∷ sym (codes "U") ∷ sym (codes "U") ∷ right ∷ []) refusal.BadForm 7 ([])
unfolding elaborate command_named other_command is_unsupported is_foreign info_of reading list_value form_of token_value is_reserved connective applied connected ahead
function_more = refl

-- ( declare-fun 5 ( ) U )
function_number : Refused uf (left ∷ sym (codes "declare-fun") ∷ num (codes "5") ∷ left ∷ right ∷ sym (codes "U") ∷ right ∷ []) refusal.BadForm 3 ([])
unfolding elaborate command_named other_command is_unsupported is_foreign info_of reading list_value form_of token_value is_reserved connective applied connected ahead
function_number = refl

-- ( declare-fun and ( U ) U )
function_core : Refused uf (left ∷ sym (codes "declare-fun") ∷ sym (codes "and") ∷ left ∷ sym (codes "U") ∷ right ∷ sym (codes "U") ∷ right ∷ []) refusal.AlreadyDeclared 3 (codes "and")
unfolding elaborate command_named other_command is_unsupported is_foreign info_of reading list_value form_of token_value is_reserved connective applied connected ahead
function_core = refl

-- ( declare-fun let ( U ) U )
function_reserved : Refused uf (left ∷ sym (codes "declare-fun") ∷ sym (codes "let") ∷ left ∷ sym (codes "U") ∷ right ∷ sym (codes "U") ∷ right ∷ []) refusal.BadForm 3 ([])
unfolding elaborate command_named other_command is_unsupported is_foreign info_of reading list_value form_of token_value is_reserved connective applied connected ahead
function_reserved = refl

-- ( declare-fun g U U )
function_no_list : Refused uf (left ∷ sym (codes "declare-fun") ∷ sym (codes "g") ∷ sym (codes "U") ∷ sym (codes "U") ∷ right ∷ []) refusal.BadForm 4 ([])
unfolding elaborate command_named other_command is_unsupported is_foreign info_of reading list_value form_of token_value is_reserved connective applied connected ahead
function_no_list = refl

-- ( declare-fun g ( U Bool ) U )
function_bool : Refused uf (left ∷ sym (codes "declare-fun") ∷ sym (codes "g") ∷ left ∷ sym (codes "U") ∷ sym (codes "Bool") ∷ right ∷ sym (codes "U") ∷ right ∷ []) refusal.NotInProfile 6 ([])
unfolding elaborate command_named other_command is_unsupported is_foreign info_of reading list_value form_of token_value is_reserved connective applied connected ahead
function_bool = refl

-- ( declare-fun g ( V ) U )
function_unknown : Refused uf (left ∷ sym (codes "declare-fun") ∷ sym (codes "g") ∷ left ∷ sym (codes "V") ∷ right ∷ sym (codes "U") ∷ right ∷ []) refusal.UnknownName 5 (codes "V")
unfolding elaborate command_named other_command is_unsupported is_foreign info_of reading list_value form_of token_value is_reserved connective applied connected ahead
function_unknown = refl

-- ( declare-fun g ( U ) ( U ) )
function_list : Refused uf (left ∷ sym (codes "declare-fun") ∷ sym (codes "g") ∷ left ∷ sym (codes "U") ∷ right ∷ left ∷ sym (codes "U") ∷ right ∷ right ∷ []) refusal.NotInProfile 7 ([])
unfolding elaborate command_named other_command is_unsupported is_foreign info_of reading list_value form_of token_value is_reserved connective applied connected ahead
function_list = refl

-- ( declare-fun g ( U U ) Bool )
function : Answers uf (left ∷ sym (codes "declare-fun") ∷ sym (codes "g") ∷ left ∷ sym (codes "U") ∷ sym (codes "U") ∷ right ∷ sym (codes "Bool") ∷ right ∷ []) (Silent) (record uf { functions = uf.functions ++ record { name = codes "g"; arguments = 1 ∷ 1 ∷ []; sort = 0 } ∷ [] })
unfolding elaborate command_named other_command is_unsupported is_foreign info_of reading list_value form_of token_value is_reserved connective applied connected ahead
function = refl

-- ( declare-const c Bool )
constant : Answers uf (left ∷ sym (codes "declare-const") ∷ sym (codes "c") ∷ sym (codes "Bool") ∷ right ∷ []) (Silent) (record uf { functions = uf.functions ++ record { name = codes "c"; arguments = []; sort = 0 } ∷ [] })
unfolding elaborate command_named other_command is_unsupported is_foreign info_of reading list_value form_of token_value is_reserved connective applied connected ahead
constant = refl

-- ( declare-const 5 )
constant_missing : Refused uf (left ∷ sym (codes "declare-const") ∷ num (codes "5") ∷ right ∷ []) refusal.BadForm 2 ([])
unfolding elaborate command_named other_command is_unsupported is_foreign info_of reading list_value form_of token_value is_reserved connective applied connected ahead
constant_missing = refl

-- ( declare-const a U )
constant_twice : Refused uf (left ∷ sym (codes "declare-const") ∷ sym (codes "a") ∷ sym (codes "U") ∷ right ∷ []) refusal.AlreadyDeclared 3 (codes "a")
unfolding elaborate command_named other_command is_unsupported is_foreign info_of reading list_value form_of token_value is_reserved connective applied connected ahead
constant_twice = refl

-- ( push 2 )
push : Answers uf (left ∷ sym (codes "push") ∷ num (codes "2") ∷ right ∷ []) (Push 2) (pushed 2 uf)
unfolding elaborate command_named other_command is_unsupported is_foreign info_of reading list_value form_of token_value is_reserved connective applied connected ahead
push = refl

-- ( push )
push_one : Answers uf (left ∷ sym (codes "push") ∷ right ∷ []) (Push 1) (pushed 1 uf)
unfolding elaborate command_named other_command is_unsupported is_foreign info_of reading list_value form_of token_value is_reserved connective applied connected ahead
push_one = refl

-- ( push 3 )
push_full : Refused uf (left ∷ sym (codes "push") ∷ num (codes "3") ∷ right ∷ []) refusal.LevelsFull 3 ([])
unfolding elaborate command_named other_command is_unsupported is_foreign info_of reading list_value form_of token_value is_reserved connective applied connected ahead
push_full = refl

-- ( push ( 3 ) )
push_list : Refused uf (left ∷ sym (codes "push") ∷ left ∷ num (codes "3") ∷ right ∷ right ∷ []) refusal.BadForm 3 ([])
unfolding elaborate command_named other_command is_unsupported is_foreign info_of reading list_value form_of token_value is_reserved connective applied connected ahead
push_list = refl

-- ( push 1 1 )
push_more : Refused uf (left ∷ sym (codes "push") ∷ num (codes "1") ∷ num (codes "1") ∷ right ∷ []) refusal.BadForm 4 ([])
unfolding elaborate command_named other_command is_unsupported is_foreign info_of reading list_value form_of token_value is_reserved connective applied connected ahead
push_more = refl

-- ( pop )
pop_far : Refused uf (left ∷ sym (codes "pop") ∷ right ∷ []) refusal.PopTooFar 2 ([])
unfolding elaborate command_named other_command is_unsupported is_foreign info_of reading list_value form_of token_value is_reserved connective applied connected ahead
pop_far = refl

-- ( pop 0 )
pop_none : Answers uf (left ∷ sym (codes "pop") ∷ num (codes "0") ∷ right ∷ []) (Pop 0) (uf)
unfolding elaborate command_named other_command is_unsupported is_foreign info_of reading list_value form_of token_value is_reserved connective applied connected ahead
pop_none = refl

-- ( check-sat )
check : Answers uf (left ∷ sym (codes "check-sat") ∷ right ∷ []) (CheckSat) (uf)
unfolding elaborate command_named other_command is_unsupported is_foreign info_of reading list_value form_of token_value is_reserved connective applied connected ahead
check = refl

-- ( check-sat x )
check_more : Refused uf (left ∷ sym (codes "check-sat") ∷ sym (codes "x") ∷ right ∷ []) refusal.BadForm 3 ([])
unfolding elaborate command_named other_command is_unsupported is_foreign info_of reading list_value form_of token_value is_reserved connective applied connected ahead
check_more = refl

-- ( get-info :assertion-stack-levels )
info_levels : Answers uf (left ∷ sym (codes "get-info") ∷ key (codes ":assertion-stack-levels") ∷ right ∷ []) (GetInfo info.Levels) (uf)
unfolding elaborate command_named other_command is_unsupported is_foreign info_of reading list_value form_of token_value is_reserved connective applied connected ahead
info_levels = refl

-- ( get-info 5 )
info_number : Refused uf (left ∷ sym (codes "get-info") ∷ num (codes "5") ∷ right ∷ []) refusal.BadForm 3 ([])
unfolding elaborate command_named other_command is_unsupported is_foreign info_of reading list_value form_of token_value is_reserved connective applied connected ahead
info_number = refl

-- ( reset )
reset : Answers record uf { prints_success = true } (left ∷ sym (codes "reset") ∷ right ∷ []) (Reset) (fresh)
unfolding elaborate command_named other_command is_unsupported is_foreign info_of reading list_value form_of token_value is_reserved connective applied connected ahead
reset = refl

-- ( reset-assertions )
reset_assertions : Answers record uf { prints_success = true } (left ∷ sym (codes "reset-assertions") ∷ right ∷ []) (ResetAssertions) (record fresh { prints_success = true })
unfolding elaborate command_named other_command is_unsupported is_foreign info_of reading list_value form_of token_value is_reserved connective applied connected ahead
reset_assertions = refl

-- ( exit )
exit : Answers uf (left ∷ sym (codes "exit") ∷ right ∷ []) (Exit) (uf)
unfolding elaborate command_named other_command is_unsupported is_foreign info_of reading list_value form_of token_value is_reserved connective applied connected ahead
exit = refl

-- ( get-model x )
unsupported : Answers uf (left ∷ sym (codes "get-model") ∷ sym (codes "x") ∷ right ∷ []) (Unsupported) (uf)
unfolding elaborate command_named other_command is_unsupported is_foreign info_of reading list_value form_of token_value is_reserved connective applied connected ahead
unsupported = refl

-- ( define-sort V )
foreign : Refused uf (left ∷ sym (codes "define-sort") ∷ sym (codes "V") ∷ right ∷ []) refusal.NotInProfile 2 ([])
unfolding elaborate command_named other_command is_unsupported is_foreign info_of reading list_value form_of token_value is_reserved connective applied connected ahead
foreign = refl

-- ( foo )
unknown : Refused uf (left ∷ sym (codes "foo") ∷ right ∷ []) refusal.BadForm 2 ([])
unfolding elaborate command_named other_command is_unsupported is_foreign info_of reading list_value form_of token_value is_reserved connective applied connected ahead
unknown = refl

-- ( )
empty : Refused uf (left ∷ right ∷ []) refusal.BadForm 1 ([])
unfolding elaborate command_named other_command is_unsupported is_foreign info_of reading list_value form_of token_value is_reserved connective applied connected ahead
empty = refl

-- ( ( assert ) )
list_head : Refused uf (left ∷ left ∷ sym (codes "assert") ∷ right ∷ right ∷ []) refusal.BadForm 2 ([])
unfolding elaborate command_named other_command is_unsupported is_foreign info_of reading list_value form_of token_value is_reserved connective applied connected ahead
list_head = refl

-- ( 5 )
number_head : Refused uf (left ∷ num (codes "5") ∷ right ∷ []) refusal.BadForm 2 ([])
unfolding elaborate command_named other_command is_unsupported is_foreign info_of reading list_value form_of token_value is_reserved connective applied connected ahead
number_head = refl

-- ( assert ( = a ( f a ) ) )
equation : Answers uf (left ∷ sym (codes "assert") ∷ left ∷ sym (codes "=") ∷ sym (codes "a") ∷ left ∷ sym (codes "f") ∷ sym (codes "a") ∷ right ∷ right ∷ right ∷ []) (Assert (record { rows = App 2 [] ∷ App 3 (0 ∷ []) ∷ []; nodes = Equal true 0 1 ∷ Equal false 0 1 ∷ []; foralls = []; root = 0 })) (uf)
unfolding elaborate command_named other_command is_unsupported is_foreign info_of reading list_value form_of token_value is_reserved connective applied connected ahead
equation = refl

-- ( assert ( let ( ( x a ) ( y ( f a ) ) ) ( = x y ) ) )
let_form : Answers uf (left ∷ sym (codes "assert") ∷ left ∷ sym (codes "let") ∷ left ∷ left ∷ sym (codes "x") ∷ sym (codes "a") ∷ right ∷ left ∷ sym (codes "y") ∷ left ∷ sym (codes "f") ∷ sym (codes "a") ∷ right ∷ right ∷ right ∷ left ∷ sym (codes "=") ∷ sym (codes "x") ∷ sym (codes "y") ∷ right ∷ right ∷ right ∷ []) (Assert (record { rows = App 2 [] ∷ App 3 (0 ∷ []) ∷ []; nodes = Equal true 0 1 ∷ Equal false 0 1 ∷ []; foralls = []; root = 0 })) (uf)
unfolding elaborate command_named other_command is_unsupported is_foreign info_of reading list_value form_of token_value is_reserved connective applied connected ahead
let_form = refl

-- ( assert ( ! ( p a ) :named x ) )
annotated : Answers uf (left ∷ sym (codes "assert") ∷ left ∷ sym (codes "!") ∷ left ∷ sym (codes "p") ∷ sym (codes "a") ∷ right ∷ key (codes ":named") ∷ sym (codes "x") ∷ right ∷ right ∷ []) (Assert (record { rows = App 2 [] ∷ App 4 (0 ∷ []) ∷ []; nodes = Atom true 1 ∷ Atom false 1 ∷ []; foralls = []; root = 0 })) (uf)
unfolding elaborate command_named other_command is_unsupported is_foreign info_of reading list_value form_of token_value is_reserved connective applied connected ahead
annotated = refl

-- ( assert ( forall ( ( x U ) ) ( ! ( p ( f x ) ) :pattern ( ( f x ) ) ) ) )
universal : Answers uf (left ∷ sym (codes "assert") ∷ left ∷ sym (codes "forall") ∷ left ∷ left ∷ sym (codes "x") ∷ sym (codes "U") ∷ right ∷ right ∷ left ∷ sym (codes "!") ∷ left ∷ sym (codes "p") ∷ left ∷ sym (codes "f") ∷ sym (codes "x") ∷ right ∷ right ∷ key (codes ":pattern") ∷ left ∷ left ∷ sym (codes "f") ∷ sym (codes "x") ∷ right ∷ right ∷ right ∷ right ∷ right ∷ []) (Assert (record { rows = Var 0 ∷ App 3 (0 ∷ []) ∷ App 4 (1 ∷ []) ∷ []; nodes = Atom true 2 ∷ Atom false 2 ∷ Forall 0 ∷ []; foralls = record { variables = 1; body = 0; triggers = record { forall = 0; place = 0; variables = 1; rows = pattern.Var 0 ∷ pattern.App 3 (0 ∷ []) ∷ []; roots = 1 ∷ [] } ∷ [] } ∷ []; root = 2 })) (uf)
unfolding elaborate command_named other_command is_unsupported is_foreign info_of reading list_value form_of token_value is_reserved connective applied connected ahead
universal = refl

-- ( assert a )
term_sort : Refused uf (left ∷ sym (codes "assert") ∷ sym (codes "a") ∷ right ∷ []) refusal.WrongSort 3 ([])
unfolding elaborate command_named other_command is_unsupported is_foreign info_of reading list_value form_of token_value is_reserved connective applied connected ahead
term_sort = refl

-- ( assert )
term_missing : Refused uf (left ∷ sym (codes "assert") ∷ right ∷ []) refusal.BadForm 2 ([])
unfolding elaborate command_named other_command is_unsupported is_foreign info_of reading list_value form_of token_value is_reserved connective applied connected ahead
term_missing = refl

-- ( assert 5 )
term_number : Refused uf (left ∷ sym (codes "assert") ∷ num (codes "5") ∷ right ∷ []) refusal.NotInProfile 3 ([])
unfolding elaborate command_named other_command is_unsupported is_foreign info_of reading list_value form_of token_value is_reserved connective applied connected ahead
term_number = refl

-- ( assert :k )
term_keyword : Refused uf (left ∷ sym (codes "assert") ∷ key (codes ":k") ∷ right ∷ []) refusal.BadForm 3 ([])
unfolding elaborate command_named other_command is_unsupported is_foreign info_of reading list_value form_of token_value is_reserved connective applied connected ahead
term_keyword = refl

-- ( assert x )
term_unknown : Refused uf (left ∷ sym (codes "assert") ∷ sym (codes "x") ∷ right ∷ []) refusal.UnknownName 3 (codes "x")
unfolding elaborate command_named other_command is_unsupported is_foreign info_of reading list_value form_of token_value is_reserved connective applied connected ahead
term_unknown = refl

-- ( assert let )
term_reserved : Refused uf (left ∷ sym (codes "assert") ∷ sym (codes "let") ∷ right ∷ []) refusal.BadForm 3 ([])
unfolding elaborate command_named other_command is_unsupported is_foreign info_of reading list_value form_of token_value is_reserved connective applied connected ahead
term_reserved = refl

-- ( assert p )
term_arity : Refused uf (left ∷ sym (codes "assert") ∷ sym (codes "p") ∷ right ∷ []) refusal.WrongArity 3 (codes "p")
unfolding elaborate command_named other_command is_unsupported is_foreign info_of reading list_value form_of token_value is_reserved connective applied connected ahead
term_arity = refl

-- ( assert ( ) )
term_empty : Refused uf (left ∷ sym (codes "assert") ∷ left ∷ right ∷ right ∷ []) refusal.BadForm 3 ([])
unfolding elaborate command_named other_command is_unsupported is_foreign info_of reading list_value form_of token_value is_reserved connective applied connected ahead
term_empty = refl

-- ( assert ( ( p ) a ) )
term_list_head : Refused uf (left ∷ sym (codes "assert") ∷ left ∷ left ∷ sym (codes "p") ∷ right ∷ sym (codes "a") ∷ right ∷ right ∷ []) refusal.NotInProfile 4 ([])
unfolding elaborate command_named other_command is_unsupported is_foreign info_of reading list_value form_of token_value is_reserved connective applied connected ahead
term_list_head = refl

-- ( assert ( 5 a ) )
term_number_head : Refused uf (left ∷ sym (codes "assert") ∷ left ∷ num (codes "5") ∷ sym (codes "a") ∷ right ∷ right ∷ []) refusal.BadForm 4 ([])
unfolding elaborate command_named other_command is_unsupported is_foreign info_of reading list_value form_of token_value is_reserved connective applied connected ahead
term_number_head = refl

-- ( assert ( exists ) )
term_exists : Refused uf (left ∷ sym (codes "assert") ∷ left ∷ sym (codes "exists") ∷ right ∷ right ∷ []) refusal.NotInProfile 4 ([])
unfolding elaborate command_named other_command is_unsupported is_foreign info_of reading list_value form_of token_value is_reserved connective applied connected ahead
term_exists = refl

-- ( assert ( let ( ) a ) )
let_no_bindings : Refused uf (left ∷ sym (codes "assert") ∷ left ∷ sym (codes "let") ∷ left ∷ right ∷ sym (codes "a") ∷ right ∷ right ∷ []) refusal.BadForm 5 ([])
unfolding elaborate command_named other_command is_unsupported is_foreign info_of reading list_value form_of token_value is_reserved connective applied connected ahead
let_no_bindings = refl

-- ( assert ( let ( ( x a ) ( x a ) ) ( p x ) ) )
let_twice : Refused uf (left ∷ sym (codes "assert") ∷ left ∷ sym (codes "let") ∷ left ∷ left ∷ sym (codes "x") ∷ sym (codes "a") ∷ right ∷ left ∷ sym (codes "x") ∷ sym (codes "a") ∷ right ∷ right ∷ left ∷ sym (codes "p") ∷ sym (codes "x") ∷ right ∷ right ∷ right ∷ []) refusal.BadForm 11 ([])
unfolding elaborate command_named other_command is_unsupported is_foreign info_of reading list_value form_of token_value is_reserved connective applied connected ahead
let_twice = refl

-- ( assert ( let ( ( 5 a b ) ) ( p x ) ) )
let_number : Refused uf (left ∷ sym (codes "assert") ∷ left ∷ sym (codes "let") ∷ left ∷ left ∷ num (codes "5") ∷ sym (codes "a") ∷ sym (codes "b") ∷ right ∷ right ∷ left ∷ sym (codes "p") ∷ sym (codes "x") ∷ right ∷ right ∷ right ∷ []) refusal.BadForm 9 ([])
unfolding elaborate command_named other_command is_unsupported is_foreign info_of reading list_value form_of token_value is_reserved connective applied connected ahead
let_number = refl

-- ( assert ( let ( ( x a ) ( y x ) ) ( p y ) ) )
let_see : Refused uf (left ∷ sym (codes "assert") ∷ left ∷ sym (codes "let") ∷ left ∷ left ∷ sym (codes "x") ∷ sym (codes "a") ∷ right ∷ left ∷ sym (codes "y") ∷ sym (codes "x") ∷ right ∷ right ∷ left ∷ sym (codes "p") ∷ sym (codes "y") ∷ right ∷ right ∷ right ∷ []) refusal.UnknownName 12 (codes "x")
unfolding elaborate command_named other_command is_unsupported is_foreign info_of reading list_value form_of token_value is_reserved connective applied connected ahead
let_see = refl

-- ( assert ( let ( ) a a ) )
let_third : Refused uf (left ∷ sym (codes "assert") ∷ left ∷ sym (codes "let") ∷ left ∷ right ∷ sym (codes "a") ∷ sym (codes "a") ∷ right ∷ right ∷ []) refusal.BadForm 8 ([])
unfolding elaborate command_named other_command is_unsupported is_foreign info_of reading list_value form_of token_value is_reserved connective applied connected ahead
let_third = refl

-- ( assert ( let ( ( x a ) ) ( x a ) ) )
let_head : Refused uf (left ∷ sym (codes "assert") ∷ left ∷ sym (codes "let") ∷ left ∷ left ∷ sym (codes "x") ∷ sym (codes "a") ∷ right ∷ right ∷ left ∷ sym (codes "x") ∷ sym (codes "a") ∷ right ∷ right ∷ right ∷ []) refusal.WrongArity 12 (codes "x")
unfolding elaborate command_named other_command is_unsupported is_foreign info_of reading list_value form_of token_value is_reserved connective applied connected ahead
let_head = refl

-- ( assert ( ! ( p a ) ) )
no_attribute : Refused uf (left ∷ sym (codes "assert") ∷ left ∷ sym (codes "!") ∷ left ∷ sym (codes "p") ∷ sym (codes "a") ∷ right ∷ right ∷ right ∷ []) refusal.BadForm 4 ([])
unfolding elaborate command_named other_command is_unsupported is_foreign info_of reading list_value form_of token_value is_reserved connective applied connected ahead
no_attribute = refl

-- ( assert ( ! ( p a ) :k a a ) )
attribute_twice : Refused uf (left ∷ sym (codes "assert") ∷ left ∷ sym (codes "!") ∷ left ∷ sym (codes "p") ∷ sym (codes "a") ∷ right ∷ key (codes ":k") ∷ sym (codes "a") ∷ sym (codes "a") ∷ right ∷ right ∷ []) refusal.BadForm 11 ([])
unfolding elaborate command_named other_command is_unsupported is_foreign info_of reading list_value form_of token_value is_reserved connective applied connected ahead
attribute_twice = refl

-- ( assert ( forall ( ( x U ) ) ( p x ) ) )
forall_no_trigger : Refused uf (left ∷ sym (codes "assert") ∷ left ∷ sym (codes "forall") ∷ left ∷ left ∷ sym (codes "x") ∷ sym (codes "U") ∷ right ∷ right ∷ left ∷ sym (codes "p") ∷ sym (codes "x") ∷ right ∷ right ∷ right ∷ []) refusal.NotInProfile 4 ([])
unfolding elaborate command_named other_command is_unsupported is_foreign info_of reading list_value form_of token_value is_reserved connective applied connected ahead
forall_no_trigger = refl

-- ( assert ( forall ( ( x U ) ) x ) )
forall_body : Refused uf (left ∷ sym (codes "assert") ∷ left ∷ sym (codes "forall") ∷ left ∷ left ∷ sym (codes "x") ∷ sym (codes "U") ∷ right ∷ right ∷ sym (codes "x") ∷ right ∷ right ∷ []) refusal.WrongSort 11 ([])
unfolding elaborate command_named other_command is_unsupported is_foreign info_of reading list_value form_of token_value is_reserved connective applied connected ahead
forall_body = refl

-- ( assert ( forall ( ( x Bool ) ) x ) )
forall_bool : Refused uf (left ∷ sym (codes "assert") ∷ left ∷ sym (codes "forall") ∷ left ∷ left ∷ sym (codes "x") ∷ sym (codes "Bool") ∷ right ∷ right ∷ sym (codes "x") ∷ right ∷ right ∷ []) refusal.NotInProfile 8 ([])
unfolding elaborate command_named other_command is_unsupported is_foreign info_of reading list_value form_of token_value is_reserved connective applied connected ahead
forall_bool = refl

-- ( assert ( forall ( ( x U ) ) ( forall ( ( y U ) ) ( p x ) ) ) )
forall_inside : Refused uf (left ∷ sym (codes "assert") ∷ left ∷ sym (codes "forall") ∷ left ∷ left ∷ sym (codes "x") ∷ sym (codes "U") ∷ right ∷ right ∷ left ∷ sym (codes "forall") ∷ left ∷ left ∷ sym (codes "y") ∷ sym (codes "U") ∷ right ∷ right ∷ left ∷ sym (codes "p") ∷ sym (codes "x") ∷ right ∷ right ∷ right ∷ right ∷ []) refusal.NotInProfile 12 ([])
unfolding elaborate command_named other_command is_unsupported is_foreign info_of reading list_value form_of token_value is_reserved connective applied connected ahead
forall_inside = refl

-- ( assert ( forall ( ( x U ) ) ( ! ( p x ) :pattern  ) ) )
trigger_missing : Refused uf (left ∷ sym (codes "assert") ∷ left ∷ sym (codes "forall") ∷ left ∷ left ∷ sym (codes "x") ∷ sym (codes "U") ∷ right ∷ right ∷ left ∷ sym (codes "!") ∷ left ∷ sym (codes "p") ∷ sym (codes "x") ∷ right ∷ key (codes ":pattern") ∷ right ∷ right ∷ right ∷ []) refusal.BadForm 17 ([])
unfolding elaborate command_named other_command is_unsupported is_foreign info_of reading list_value form_of token_value is_reserved connective applied connected ahead
trigger_missing = refl

-- ( assert ( forall ( ( x U ) ) ( ! ( p x ) :pattern x ) ) )
trigger_token : Refused uf (left ∷ sym (codes "assert") ∷ left ∷ sym (codes "forall") ∷ left ∷ left ∷ sym (codes "x") ∷ sym (codes "U") ∷ right ∷ right ∷ left ∷ sym (codes "!") ∷ left ∷ sym (codes "p") ∷ sym (codes "x") ∷ right ∷ key (codes ":pattern") ∷ sym (codes "x") ∷ right ∷ right ∷ right ∷ []) refusal.BadForm 18 ([])
unfolding elaborate command_named other_command is_unsupported is_foreign info_of reading list_value form_of token_value is_reserved connective applied connected ahead
trigger_token = refl

-- ( assert ( forall ( ( x U ) ) ( ! ( p x ) :pattern ( ) ) ) )
trigger_empty : Refused uf (left ∷ sym (codes "assert") ∷ left ∷ sym (codes "forall") ∷ left ∷ left ∷ sym (codes "x") ∷ sym (codes "U") ∷ right ∷ right ∷ left ∷ sym (codes "!") ∷ left ∷ sym (codes "p") ∷ sym (codes "x") ∷ right ∷ key (codes ":pattern") ∷ left ∷ right ∷ right ∷ right ∷ right ∷ []) refusal.BadForm 18 ([])
unfolding elaborate command_named other_command is_unsupported is_foreign info_of reading list_value form_of token_value is_reserved connective applied connected ahead
trigger_empty = refl

-- ( assert ( forall ( ( x U ) ) ( ! ( p x ) :pattern ( x ) ) ) )
trigger_variable : Refused uf (left ∷ sym (codes "assert") ∷ left ∷ sym (codes "forall") ∷ left ∷ left ∷ sym (codes "x") ∷ sym (codes "U") ∷ right ∷ right ∷ left ∷ sym (codes "!") ∷ left ∷ sym (codes "p") ∷ sym (codes "x") ∷ right ∷ key (codes ":pattern") ∷ left ∷ sym (codes "x") ∷ right ∷ right ∷ right ∷ right ∷ []) refusal.PatternIsVariable 19 ([])
unfolding elaborate command_named other_command is_unsupported is_foreign info_of reading list_value form_of token_value is_reserved connective applied connected ahead
trigger_variable = refl

-- ( assert ( forall ( ( x U ) ) ( ! ( p x ) :pattern ( ( not ( p x ) ) ) ) ) )
trigger_connective : Refused uf (left ∷ sym (codes "assert") ∷ left ∷ sym (codes "forall") ∷ left ∷ left ∷ sym (codes "x") ∷ sym (codes "U") ∷ right ∷ right ∷ left ∷ sym (codes "!") ∷ left ∷ sym (codes "p") ∷ sym (codes "x") ∷ right ∷ key (codes ":pattern") ∷ left ∷ left ∷ sym (codes "not") ∷ left ∷ sym (codes "p") ∷ sym (codes "x") ∷ right ∷ right ∷ right ∷ right ∷ right ∷ right ∷ []) refusal.PatternHasConnective 19 ([])
unfolding elaborate command_named other_command is_unsupported is_foreign info_of reading list_value form_of token_value is_reserved connective applied connected ahead
trigger_connective = refl

-- ( assert ( forall ( ( x U ) ) ( ! ( p x ) :pattern ( ( f a ) ) ) ) )
trigger_without : Refused uf (left ∷ sym (codes "assert") ∷ left ∷ sym (codes "forall") ∷ left ∷ left ∷ sym (codes "x") ∷ sym (codes "U") ∷ right ∷ right ∷ left ∷ sym (codes "!") ∷ left ∷ sym (codes "p") ∷ sym (codes "x") ∷ right ∷ key (codes ":pattern") ∷ left ∷ left ∷ sym (codes "f") ∷ sym (codes "a") ∷ right ∷ right ∷ right ∷ right ∷ right ∷ []) refusal.PatternWithoutVariable 18 (codes "x")
unfolding elaborate command_named other_command is_unsupported is_foreign info_of reading list_value form_of token_value is_reserved connective applied connected ahead
trigger_without = refl

-- ( define-fun g ( ( x U ) ) Bool ( not ( p ( f x ) ) ) )
definition : Answers uf (left ∷ sym (codes "define-fun") ∷ sym (codes "g") ∷ left ∷ left ∷ sym (codes "x") ∷ sym (codes "U") ∷ right ∷ right ∷ sym (codes "Bool") ∷ left ∷ sym (codes "not") ∷ left ∷ sym (codes "p") ∷ left ∷ sym (codes "f") ∷ sym (codes "x") ∷ right ∷ right ∷ right ∷ right ∷ []) (Silent) (record uf { definitions = record { name = codes "g"; parameters = 1 ∷ []; sort = 0; rows = Var 0 ∷ App 3 (0 ∷ []) ∷ App 4 (1 ∷ []) ∷ []; nodes = Atom true 2 ∷ Atom false 2 ∷ []; value = Formula 1 (Some 0) } ∷ [] })
unfolding elaborate command_named other_command is_unsupported is_foreign info_of reading list_value form_of token_value is_reserved connective applied connected ahead
definition = refl

-- ( define-fun g ( ( x U ) ) U ( p x ) )
definition_sort : Refused uf (left ∷ sym (codes "define-fun") ∷ sym (codes "g") ∷ left ∷ left ∷ sym (codes "x") ∷ sym (codes "U") ∷ right ∷ right ∷ sym (codes "U") ∷ left ∷ sym (codes "p") ∷ sym (codes "x") ∷ right ∷ right ∷ []) refusal.WrongSort 11 ([])
unfolding elaborate command_named other_command is_unsupported is_foreign info_of reading list_value form_of token_value is_reserved connective applied connected ahead
definition_sort = refl

-- ( define-fun g ( ) Bool ( forall ( ) a ) )
definition_forall : Refused uf (left ∷ sym (codes "define-fun") ∷ sym (codes "g") ∷ left ∷ right ∷ sym (codes "Bool") ∷ left ∷ sym (codes "forall") ∷ left ∷ right ∷ sym (codes "a") ∷ right ∷ right ∷ []) refusal.NotInProfile 8 ([])
unfolding elaborate command_named other_command is_unsupported is_foreign info_of reading list_value form_of token_value is_reserved connective applied connected ahead
definition_forall = refl
