-- A name with its arguments: the checks in their order, and then what it puts.
use Rattle.std.specs.Prelude.{ℕ, ◌+◌, Bool, true, false, not, ◌&&◌, ◌||◌, ◌==◌}
use Rattle.std.specs.Prelude.{nat_le, nat_lt, List, [], ◌∷◌, map, length, get_or, replicate}
use Rattle.smt_text.specs.declared.token.Place.{Place}
use Rattle.smt_names.specs.declared.value.Value.{Value}
use Rattle.smt_names.specs.declared.arg.Arg.{Arg}
use Rattle.smt_names.specs.declared.connective.Connective.{Connective}
use Rattle.smt_names.specs.declared.connective.Connective.TheVariants as core
use Rattle.smt_names.specs.declared.refusal.Refusal.TheVariants.{WrongArity, WrongSort, NotInProfile}
use Rattle.smt_names.specs.Value.{sort_of, has_complement}
use Rattle.smt_names.specs.Making.{Making, gives, ◌>>=◌, ◌>>◌, must_hold, must_hold_named, bad_form}
use Rattle.smt_names.specs.Names.{Named, Core, Function, Definition, Unknown}
use Rattle.smt_forms.specs.Nodes.{connected, application}
use Rattle.smt_forms.specs.Moved.{unfolded}

-- Numbers of arguments.
abbrev pub arity_of : Connective → ℕ → Bool
arity_of core.True n = n == 0
arity_of core.False n = n == 0
arity_of core.Not n = n == 1
arity_of core.And n = nat_le 1 n
arity_of core.Or n = nat_le 1 n
arity_of core.Implies n = nat_le 2 n
arity_of core.Xor n = nat_le 2 n
arity_of core.Equals n = nat_le 2 n
arity_of core.Distinct n = nat_le 2 n
arity_of core.Ite n = n == 3

abbrev pub has_number : Named → ℕ → Bool
has_number (Core c) n = arity_of c n
has_number (Function symbol f) n = n == length f.arguments
has_number (Definition d) n = n == length d.parameters
has_number Unknown n = false

-- a wrong number of arguments is refused at the head, with its name
abbrev pub right_number : Place → List ℕ → Named → ℕ → Making (Unit {0})
right_number head called name n = must_hold_named (has_number name n) WrongArity head called

-- Sorts.
abbrev pub values_of : List Arg → List Value
values_of args = map (λ arg. arg.value) args

-- the sort of the argument at a place, Bool where there is none
abbrev pub sort_at : ℕ → List Arg → ℕ
sort_at n args = get_or (map (λ arg. sort_of arg.value) args) n 0

-- the sort that each argument must have
abbrev pub wanted_by : Connective → List Arg → List ℕ
wanted_by core.Equals args = replicate (length args) (sort_at 0 args)
wanted_by core.Distinct args = replicate (length args) (sort_at 0 args)
wanted_by core.Ite args = 0 ∷ sort_at 1 args ∷ sort_at 1 args ∷ []
wanted_by c args = replicate (length args) 0

abbrev pub wanted : Named → List Arg → List ℕ
wanted (Core c) args = wanted_by c args
wanted (Function symbol f) args = f.arguments
wanted (Definition d) args = d.parameters
wanted Unknown args = []

-- the first argument of another sort is refused
abbrev pub right_sorts : List ℕ → List Arg → Making (Unit {0})
right_sorts [] args = gives tt
right_sorts (sort ∷ sorts) [] = gives tt
right_sorts (sort ∷ sorts) (arg ∷ args) = do
  must_hold (sort_of arg.value == sort) WrongSort arg.place
  right_sorts sorts args

-- branches that are no formulas are refused at the head
abbrev pub right_branches : Place → Named → List Arg → Making (Unit {0})
right_branches head (Core core.Ite) args = must_hold (sort_at 1 args == 0) NotInProfile head
right_branches head name args = gives tt

-- Complements.
-- whether the form needs the complement of the argument at place k of n, where the first has that sort
abbrev pub needs : Connective → (k n sort : ℕ) → Bool
needs core.Not k n sort = true
needs core.Implies k n sort = nat_lt (k + 1) n
needs core.Xor k n sort = true
needs core.Equals k n sort = sort == 0
needs core.Distinct k n sort = sort == 0 && n == 2
needs core.Ite k n sort = k == 0
needs c k n sort = false

abbrev pub has_needed : Connective → (k n sort : ℕ) → Value → Bool
has_needed c k n sort part = not (needs c k n sort) || has_complement part

-- the first argument that lacks a complement which the form needs is refused
abbrev pub right_complements : Connective → (k n sort : ℕ) → List Arg → Making (Unit {0})
right_complements c k n sort [] = gives tt
right_complements c k n sort (arg ∷ args) = do
  must_hold (has_needed c k n sort arg.value) NotInProfile arg.place
  right_complements c (k + 1) n sort args

abbrev pub complements_for : Named → List Arg → Making (Unit {0})
complements_for (Core c) args = right_complements c 0 (length args) (sort_at 0 args) args
complements_for name args = gives tt

-- The checks of an application, in their order.
abbrev pub checked : (head : Place) → List ℕ → Named → List Arg → Making (Unit {0})
checked head called name args = do
  right_number head called name (length args)
  right_sorts (wanted name args) args
  right_branches head name args
  complements_for name args

-- what is put where the checks hold
abbrev pub entered : Place → Named → List Value → Making Value
entered at (Core c) args = connected at c args
entered at (Function symbol f) args = application at symbol f.sort args
entered at (Definition d) args = unfolded at d args
entered at Unknown args = bad_form at

-- A head, its place and how it is called, with its arguments, which are put at the place of the list or token.
unfoldable pub applied : (at head : Place) → List ℕ → Named → List Arg → Making Value
applied at head called name args = do
  checked head called name args
  entered at name (values_of args)
