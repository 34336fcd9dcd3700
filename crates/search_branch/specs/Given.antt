-- What the values of nodes are given, by what is held.
use Rattle.std.specs.Prelude.{◌≡◌, ◌↔◌, ℕ, ◌+◌, ◌<◌, Bool, true, false, List, [], ◌∷◌, ◌++◌, length, map, Contains}
use Rattle.graph_meaning.specs.declared.done.Done.{Done}
use Rattle.graph_meaning.specs.Same.{Same}
use Rattle.graph_meaning.specs.Standing.{differs_of}
use Rattle.formula_table.specs.declared.node.Node.{Node}
use Rattle.formula_table.specs.declared.node.Node.TheVariants.{Equal, Atom, And, Or, Forall}
use Rattle.formula_table.specs.Formulas.{Formulas}
use Rattle.formula_truth.specs.declared.truth.Truth.{Truth}
use Rattle.formula_truth.specs.declared.truth.Truth.TheVariants.{Yes, Unset}
use Rattle.formula_value.specs.ByParts.{turn_of}
use Rattle.formula_value.specs.Holds.{HasNode}
use Rattle.formula_assert.specs.Held.{Held}
use Rattle.search_board.specs.declared.kind.Kind.{Kind}
use Rattle.search_board.specs.declared.kind.Kind.TheVariants.{Leaf as LeafKind, And as AndKind, Or as OrKind}
use Rattle.search_watch.specs.Literals.{IsEquationValue, IsAtomValue}
use Rattle.search_values.specs.Given.{Given}

-- the kind of a node: a connective, or a leaf
abbrev pub kind_in : Node → Kind
kind_in (Equal positive s t) = LeafKind
kind_in (Atom positive term) = LeafKind
kind_in (And parts) = AndKind
kind_in (Or parts) = OrKind
kind_in (Forall forall) = LeafKind

-- the parts of a connective
abbrev pub parts_in : Node → List ℕ
parts_in (Equal positive s t) = []
parts_in (Atom positive term) = []
parts_in (And parts) = parts
parts_in (Or parts) = parts
parts_in (Forall forall) = []

-- the value of a literal by what stands; no connective has one by itself, and that of a forall is not by what stands
abbrev pub IsLeafTruth : List Done → Node → Truth → Type 0
IsLeafTruth standing (Equal positive s t) truth =
    IsEquationValue (Same standing) (differs_of standing) s t (turn_of positive truth)
IsLeafTruth standing (Atom positive term) truth = IsAtomValue (Same standing) term (turn_of positive truth)
IsLeafTruth standing (And parts) truth = truth ≡ Unset
IsLeafTruth standing (Or parts) truth = truth ≡ Unset
IsLeafTruth standing (Forall forall) truth = Unit {0}

-- the value of a forall, by whether it is asserted
abbrev pub forall_truth : Bool → Truth
forall_truth true = Yes
forall_truth false = Unset

-- each forall is Yes where it is asserted, and Unset where it is not
abbrev pub AreForallValues : List Node → Given → Type 0
AreForallValues nodes given = (n forall : ℕ) → HasNode nodes n (Forall forall) →
    given.leaf n ≡ forall_truth (given.asserted n)

-- the terms that a node ends, if it is a literal, with its number; an atom is between its term, true and false
abbrev pub ends_in : ℕ → Node → List (ℕ × ℕ)
ends_in n (Equal positive s t) = (n, s) ∷ (n, t) ∷ []
ends_in n (Atom positive term) = (n, term) ∷ (n, 0) ∷ (n, 1) ∷ []
ends_in n (And parts) = []
ends_in n (Or parts) = []
ends_in n (Forall forall) = []

-- the same of nodes in order, of which the first has this number
abbrev pub ends_of : ℕ → List Node → List (ℕ × ℕ)
ends_of n [] = []
ends_of n (node ∷ nodes) = ends_in n node ++ ends_of (n + 1) nodes

-- the nodes with their parts, the values of literals by what is held, what is asserted and struck, and the values of
-- foralls by what is asserted
pub record IsGivenBy (formulas : Formulas) (now : Held) (struck : List (ℕ × ℕ)) (given : Given) : Type 0 where
  pub kinds : given.kinds ≡ map kind_in formulas.nodes
  pub parts : given.parts ≡ map parts_in formulas.nodes
  pub leaf : (n : ℕ) (node : Node) → HasNode formulas.nodes n node →
      IsLeafTruth now.graph.standing node (given.leaf n)
  pub foralls : AreForallValues formulas.nodes given
  pub asserted : (n : ℕ) → n < length formulas.nodes → (given.asserted n ≡ true) ↔ Contains now.asserted n
  pub struck_are : (n place : ℕ) → n < length formulas.nodes →
      (given.struck n place ≡ true) ↔ Contains struck (n, place)
