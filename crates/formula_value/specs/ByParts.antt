-- The value of a node by those of its parts.
use Rattle.std.specs.Prelude.{◌≡◌, ℕ, Bool, true, false, List, map, slice_index_or}
use Rattle.graph_meaning.specs.Known.{Known}
use Rattle.formula_table.specs.declared.node.Node.{Node}
use Rattle.formula_table.specs.declared.node.Node.TheVariants.{Equal, Atom, And, Or, Forall}
use Rattle.formula_truth.specs.declared.truth.Truth.{Truth}
use Rattle.formula_truth.specs.declared.truth.Truth.TheVariants.{Yes, No, Unset}
use Rattle.formula_truth.specs.Truths.{all_of, some_of}
use Rattle.formula_value.specs.Value.{IsYesLeaf, IsNoLeaf}

-- the values at these numbers
abbrev pub values_of : List Truth → List ℕ → List Truth
values_of values parts = map (λ part. slice_index_or values part Unset) parts

-- the value of a leaf
abbrev pub IsLeafValue : Known → List ℕ → Node → Truth → Type 0
IsLeafValue known live node Yes = IsYesLeaf known live node
IsLeafValue known live node No = IsNoLeaf known live node
IsLeafValue known live node Unset = (IsYesLeaf known live node → ⊥) × (IsNoLeaf known live node → ⊥)

-- the value of a literal, where that of its positive one is this
abbrev pub turn_of : Bool → Truth → Truth
turn_of true truth = truth
turn_of false Yes = No
turn_of false No = Yes
turn_of false Unset = Unset

-- the value of a node over formulas with these values
abbrev pub IsNodeValue : Known → List ℕ → List Truth → Node → Truth → Type 0
IsNodeValue known live values (And parts) truth = truth ≡ all_of (values_of values parts)
IsNodeValue known live values (Or parts) truth = truth ≡ some_of (values_of values parts)
IsNodeValue known live values (Equal positive s t) truth = IsLeafValue known live (Equal positive s t) truth
IsNodeValue known live values (Atom positive term) truth = IsLeafValue known live (Atom positive term) truth
IsNodeValue known live values (Forall forall) truth = IsLeafValue known live (Forall forall) truth
