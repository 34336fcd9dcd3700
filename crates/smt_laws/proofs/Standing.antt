-- What holds where a term stands.
use Rattle.std.specs.Prelude.{◌≡◌, ℕ, ◌≤◌, Bool, true, not, ◌||◌, List, [], slice_get, Some, All}
use Rattle.formula_draft.specs.Draft.{Draft}
use Rattle.formula_draft.specs.Sorted.{Signature}
use Rattle.smt_names.specs.declared.bound.Bound.{Bound}
use Rattle.smt_names.specs.declared.stands.Stands.{Stands}
use Rattle.smt_names.specs.declared.stands.Stands.TheVariants.{Given, Variable}
use Rattle.smt_names.specs.Names.{Scope}
use Rattle.smt_laws.specs.Sorted.{signatures_of}
use Rattle.smt_laws.specs.Sound.{Fits, AreDeclared}

-- what a bound name stands for, where the variables have these sorts
abbrev pub Stood : List Signature → List ℕ → Bool → Draft → Stands → Type 0
Stood functions variables universal draft (Given v) = Fits functions variables universal draft v
Stood functions variables universal draft (Variable index sort) = slice_get variables index ≡ Some sort

-- whether a formula with a forall may stand there
abbrev pub may_hold : Scope → Bool
may_hold scope = not (scope.in_forall || scope.in_definition)

-- The names of a scope stand in the draft, where the variables have these sorts, none of which is Bool. There are none outside
-- foralls and definitions. A name that was bound before a forall may hold one.
pub record IsScope (variables : List ℕ) (draft : Draft) (scope : Scope) : Type 0 where
  pub declared : AreDeclared scope.state.functions scope.state.definitions
  pub others : All (λ sort. 1 ≤ sort) variables
  pub outside : may_hold scope ≡ true → variables ≡ []
  pub bound : All (λ (b : Bound). Stood (signatures_of scope.state.functions) variables (not scope.in_definition) draft b.stands) scope.bound
