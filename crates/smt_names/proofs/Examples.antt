-- The definitions on single names.
use Rattle.std.proofs.Common.{◌≡◌, ℕ, true, false, List, [], ◌∷◌, Option, Some, None, Ok, Err, refl, codes}
use Rattle.smt_text.specs.Word.{Word}
use Rattle.smt_text.specs.declared.token.Place.{Place}
use Rattle.smt_text.specs.declared.token.Kind.{Kind}
use Rattle.smt_text.specs.declared.token.Kind.TheVariants.{Symbol, Keyword, Numeral}
use Rattle.em_outside.specs.declared.limits.Limits.{Limits}
use Rattle.formula_draft.specs.Draft.{Draft, empty_draft}
use Rattle.smt_names.specs.declared.value.Value.TheVariants.{Term, Formula}
use Rattle.smt_names.specs.declared.stands.Stands.TheVariants.{Given, Variable}
use Rattle.smt_names.specs.declared.connective.Connective.TheVariants as core
use Rattle.smt_names.specs.declared.head.Head.TheVariants as head
use Rattle.smt_names.specs.declared.refusal.Refusal.TheVariants as refusal
use Rattle.smt_names.specs.Making.{fault_of}
use Rattle.smt_names.specs.Names.{State, Declared, Defined, Core, Function, named, head_of, connective, is_reserved, bound_as, bound_of, word_of, is_wide, lawful_name, new_name, new_function_name, new_sort_name, sort_number, sort_of_token, other_sort_of_token, at_start, cleared, pushed, popped, with_sort, with_function, declared_as}

abbrev place : Place
place = record { line = 1; column = 9 }

abbrev none : Draft
none = empty_draft 100 100

abbrev symbol : List ℕ → Word
symbol name = word_of Symbol place name

abbrev few : Limits
few = record { terms = 100; nodes = 100; bytes = 100; depth = 100; levels = 2 }

abbrev f : Declared
f = record { name = codes "f"; arguments = 1 ∷ []; sort = 1 }

abbrev g : Defined
g = record { name = codes "g"; parameters = []; sort = 1; rows = []; nodes = []; value = Term 0 1 }

abbrev some : State
some = record (at_start few) { sorts = codes "U" ∷ codes "V" ∷ []; functions = record { name = codes "c"; arguments = []; sort = 1 } ∷ f ∷ []; definitions = g ∷ [] }

-- functions have the symbols from 2 on
a_function : named some (codes "f") ≡ Function 3 f
unfolding connective
a_function = refl

a_core_name : named some (codes "=>") ≡ Core core.Implies
unfolding connective
a_core_name = refl

a_definition : head_of some (codes "g") ≡ head.Definition 0
unfolding connective
a_definition = refl

no_name : head_of some (codes "U") ≡ head.Unknown
unfolding connective
no_name = refl

-- the last binding of a name wins
last_wins : bound_as (bound_of (codes "x") (Variable 0 1) ∷ bound_of (codes "y") (Variable 1 1) ∷ bound_of (codes "x") (Given (Term 5 1)) ∷ []) (codes "x") ≡ Some (bound_of (codes "x") (Given (Term 5 1)))
last_wins = refl

not_bound : bound_as (bound_of (codes "x") (Variable 0 1) ∷ []) (codes "y") ≡ None
not_bound = refl

-- names that may be bound, declared and defined
bound_name : lawful_name (symbol (codes "@x")) none ≡ Ok (tt, none)
unfolding is_reserved
bound_name = refl

reserved : lawful_name (symbol (codes "forall")) none ≡ Err (fault_of refusal.BadForm place [])
unfolding is_reserved
reserved = refl

no_symbol : lawful_name (word_of Numeral place (codes "5")) none ≡ Err (fault_of refusal.BadForm place [])
unfolding is_reserved
no_symbol = refl

solver_name : new_name (symbol (codes ".x")) none ≡ Err (fault_of refusal.BadForm place [])
unfolding is_reserved
solver_name = refl

declared_again : new_function_name some (symbol (codes "g")) none ≡ Err (fault_of refusal.AlreadyDeclared place (codes "g"))
unfolding is_reserved connective
declared_again = refl

core_again : new_function_name some (symbol (codes "ite")) none ≡ Err (fault_of refusal.AlreadyDeclared place (codes "ite"))
unfolding is_reserved connective
core_again = refl

-- sorts and functions are two spaces of names
sort_as_function : new_function_name some (symbol (codes "U")) none ≡ Ok (tt, none)
unfolding is_reserved connective
sort_as_function = refl

sort_again : new_sort_name some (symbol (codes "Bool")) none ≡ Err (fault_of refusal.AlreadyDeclared place (codes "Bool"))
unfolding is_reserved
sort_again = refl

function_as_sort : new_sort_name some (symbol (codes "f")) none ≡ Ok (tt, none)
unfolding is_reserved
function_as_sort = refl

-- sorts
second_sort : sort_of_token some (symbol (codes "V")) none ≡ Ok (2, none)
second_sort = refl

unknown_sort : sort_of_token some (symbol (codes "let")) none ≡ Err (fault_of refusal.UnknownName place (codes "let"))
unknown_sort = refl

token_as_sort : sort_of_token some (word_of Keyword place (codes ":U")) none ≡ Err (fault_of refusal.BadForm place [])
token_as_sort = refl

bool_sort : other_sort_of_token some (symbol (codes "Bool")) none ≡ Err (fault_of refusal.NotInProfile place [])
bool_sort = refl

-- numerals
narrow : is_wide (word_of Numeral place (codes "340282366920938463463374607431768211455")) ≡ false
narrow = refl

wide : is_wide (word_of Numeral place (codes "340282366920938463463374607431768211456")) ≡ true
wide = refl

-- a pop takes back what was declared after its push, and two at once do as one after the other
taken_back : popped 1 (with_sort (codes "W") (pushed 1 some)) ≡ some
taken_back = refl

two_taken_back : popped 2 (with_sort (codes "X") (pushed 1 (with_sort (codes "W") (pushed 1 some)))) ≡ some
two_taken_back = refl

none_taken_back : popped 0 some ≡ some
none_taken_back = refl

options_stay : cleared (record some { prints_success = true }) ≡ record (at_start few) { prints_success = true }
options_stay = refl
