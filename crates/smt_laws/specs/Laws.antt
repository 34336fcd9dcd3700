-- The laws of elaboration.
use Rattle.std.specs.Prelude.{◌≡◌, ℕ, List, [], ◌++◌, Ok}
use Rattle.smt_text.specs.declared.token.Place.{Place}
use Rattle.smt_text.specs.Trees.{Trees}
use Rattle.formula_draft.specs.Draft.{Draft, IsFormula, empty_draft, finished}
use Rattle.smt_names.specs.declared.value.Value.{Value}
use Rattle.smt_names.specs.declared.bound.Bound.{Bound}
use Rattle.smt_names.specs.Value.{sort_of, self}
use Rattle.smt_names.specs.Names.{State, Declared, Defined}
use Rattle.smt_terms.specs.Reading.{Reading}
use Rattle.smt_terms.specs.Terms.{value, reading, variables_from}
use Rattle.smt_terms.specs.Scopes.{outside, sorts_of, inside_definition}
use Rattle.smt_laws.specs.Sorted.{IsTruth}
use Rattle.smt_laws.specs.Sound.{IsDefinition, AreDeclared}

-- What a formula outside foralls and definitions makes of nothing is a formula, sorted as the functions are declared.
abbrev pub MakesFormulas : Type 0
MakesFormulas = (state : State) (missing : Place) (trees : Trees) (most_rows most_nodes : ℕ) (v : Value)
    (later : Draft) → AreDeclared state.functions state.definitions
    → value missing (outside state) (reading trees) (empty_draft most_rows most_nodes) ≡ Ok (v, later) → sort_of v ≡ 0
    → IsFormula (finished later (self v)) × IsTruth state.functions [] later.rows later.nodes later.foralls (self v)

-- What a term inside a definition makes of nothing is right for its parameters.
abbrev pub MakesDefinitions : Type 0
MakesDefinitions = (state : State) (missing : Place) (bindings : Reading) (before after : Draft)
    (parameters : List Bound) (trees : Trees) (most_rows most_nodes : ℕ) (v : Value) (later : Draft) (name : List ℕ)
    (sort : ℕ) (sorts : List ℕ)
    → AreDeclared state.functions state.definitions
    → variables_from state 0 bindings before ≡ Ok (parameters, after)
    → value missing (inside_definition state parameters) (reading trees) (empty_draft most_rows most_nodes)
    ≡ Ok (v, later)
    → sorts ≡ sorts_of parameters
    → IsDefinition state.functions (record {
      name = name;
      parameters = sorts;
      sort = sort;
      rows = later.rows;
      nodes = later.nodes;
      value = v;
    })

-- A definition stays right when functions are declared.
abbrev pub KeepsDefinitions : Type 0
KeepsDefinitions = (functions more : List Declared) (d : Defined) → IsDefinition functions d →
    IsDefinition (functions ++ more) d
