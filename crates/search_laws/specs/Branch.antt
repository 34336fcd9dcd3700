-- Branches of the search.
use Rattle.std.specs.Prelude.{ℕ, List, [], ◌∷◌, ◌++◌, slice_get, Option, Some, None}
use Rattle.std.specs.List.{filter_map}
use Rattle.std.specs.Option.{option_map_or}
use Rattle.graph_meaning.specs.Known.{Known, known_of}
use Rattle.graph_meaning.specs.State.{replay}
use Rattle.formula_table.specs.declared.node.Node.{Node}
use Rattle.formula_table.specs.declared.node.Node.TheVariants.{Equal, Atom, And, Or, Forall}
use Rattle.formula_table.specs.Formulas.{Formulas}
use Rattle.formula_value.specs.Value.{IsYes, IsNo}
use Rattle.formula_assert.specs.Held.{Held, held, refuting_of}

-- what is held true, and which parts of disjunctions were struck: the number of the disjunction and the place
pub record Branch : Type 0 where
  pub held : Held
  pub struck : List (ℕ × ℕ)

-- the branch of what is held, with nothing struck
abbrev pub first_branch : Held → Branch
first_branch now = record { held = now; struck = [] }

-- the branch where this is held
abbrev pub with_held : Branch → Held → Branch
with_held branch now = record branch { held = now }

-- the branch where the part at a place of a disjunction is struck, and what refutes the part is done
abbrev pub with_struck : Branch → ℕ → ℕ → Node → Branch
with_struck branch n place part = record {
  held = held (replay branch.held.graph (refuting_of part)) branch.held.asserted;
  struck = branch.struck ++ (n, place) ∷ [];
}

-- what the graph of the branch says
abbrev pub known_in : Branch → Known
known_in branch = known_of branch.held.graph.standing

-- the forall that a node is, if it is one
abbrev pub forall_in : Node → Option ℕ
forall_in (Equal positive left right) = None
forall_in (Atom positive term) = None
forall_in (And parts) = None
forall_in (Or parts) = None
forall_in (Forall forall) = Some forall

-- the foralls among these nodes
abbrev pub foralls_among : List Node → List ℕ → List ℕ
foralls_among nodes ns = filter_map (λ n. option_map_or forall_in (slice_get nodes n) None) ns

-- the foralls that are asserted in the branch
abbrev pub live_in : Formulas → Branch → List ℕ
live_in formulas branch = foralls_among formulas.nodes branch.held.asserted

-- the formula is known to be true in the branch
abbrev pub IsYesIn : Formulas → Branch → ℕ → Type 0
IsYesIn formulas branch n = IsYes (known_in branch) (live_in formulas branch) formulas.nodes n

-- the formula is known to be false in the branch
abbrev pub IsNoIn : Formulas → Branch → ℕ → Type 0
IsNoIn formulas branch n = IsNo (known_in branch) (live_in formulas branch) formulas.nodes n
