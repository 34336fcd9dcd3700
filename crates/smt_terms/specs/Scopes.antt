-- Where the terms of commands stand.
use Rattle.std.specs.Prelude.{ℕ, true, false, List, [], map}
use Rattle.smt_names.specs.declared.bound.Bound.{Bound}
use Rattle.smt_names.specs.declared.stands.Stands.{Stands}
use Rattle.smt_names.specs.declared.stands.Stands.TheVariants.{Given, Variable}
use Rattle.smt_names.specs.Value.{sort_of}
use Rattle.smt_names.specs.Names.{State, Scope}

-- outside foralls and definitions
abbrev pub outside : State → Scope
outside state = record { state = state; bound = []; in_forall = false; in_definition = false }

-- inside a definition of these parameters
abbrev pub inside_definition : State → List Bound → Scope
inside_definition state parameters = record {
  state = state;
  bound = parameters;
  in_forall = false;
  in_definition = true;
}

-- the sort of what a bound name stands for
abbrev pub sort_of_stands : Stands → ℕ
sort_of_stands (Given v) = sort_of v
sort_of_stands (Variable index sort) = sort

-- the sorts of bound names
abbrev pub sorts_of : List Bound → List ℕ
sorts_of bound = map (λ b. sort_of_stands b.stands) bound
