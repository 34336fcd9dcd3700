-- What the value of a leaf says of what is known.
use Rattle.std.proofs.Common.{◌≡◌, ℕ, true, false, List, Contains, refl}
use Rattle.graph_meaning.specs.declared.done.Done.{Done}
use Rattle.graph_meaning.specs.Same.{Same}
use Rattle.graph_meaning.specs.Known.{known_of}
use Rattle.graph_meaning.specs.Standing.{differs_of}
use Rattle.formula_table.specs.declared.node.Node.{Node}
use Rattle.formula_table.specs.declared.node.Node.TheVariants.{Equal, Atom, And, Or, Forall}
use Rattle.formula_truth.specs.declared.truth.Truth.{Truth}
use Rattle.formula_truth.specs.declared.truth.Truth.TheVariants.{Yes, No, Unset}
use Rattle.formula_value.specs.ByParts.{turn_of}
use Rattle.formula_value.specs.Value.{IsYesLeaf, IsNoLeaf}
use Rattle.search_board.specs.declared.kind.Kind.TheVariants.{Leaf as LeafKind}
use Rattle.search_watch.specs.Literals.{AreKeptApart, IsEquationValue, IsAtomValue}
use Rattle.search_branch.specs.Given.{kind_in, IsLeafTruth}

module _ (standing : List Done) where
  -- the one value that an equation has
  equation_yes : (s t : ℕ) (truth : Truth) → IsEquationValue (Same standing) (differs_of standing) s t truth →
      Same standing s t → truth ≡ Yes
  equation_yes s t Yes is same = refl
  equation_yes s t No is same = absurd (is.0 same)
  equation_yes s t Unset is same = absurd (is.0 same)

  equation_no : (s t : ℕ) (truth : Truth) → IsEquationValue (Same standing) (differs_of standing) s t truth →
      (Same standing s t → ⊥) → AreKeptApart (Same standing) (differs_of standing) s t → truth ≡ No
  equation_no s t Yes is other apart = absurd (other is)
  equation_no s t No is other apart = refl
  equation_no s t Unset is other apart = absurd (is.1 apart)

  -- and the one that an atom has
  atom_yes : (t : ℕ) (truth : Truth) → IsAtomValue (Same standing) t truth → Same standing t 0 → truth ≡ Yes
  atom_yes t Yes is same = refl
  atom_yes t No is same = absurd (is.0 same)
  atom_yes t Unset is same = absurd (is.0 same)

  atom_no : (t : ℕ) (truth : Truth) → IsAtomValue (Same standing) t truth → (Same standing t 0 → ⊥) →
      Same standing t 1 → truth ≡ No
  atom_no t Yes is other same = absurd (other is)
  atom_no t No is other same = refl
  atom_no t Unset is other same = absurd (is.1 same)

  -- a turned value, turned back
  turned_yes : (truth : Truth) → turn_of false truth ≡ Yes → truth ≡ No
  turned_yes Yes e = cc
  turned_yes No e = refl
  turned_yes Unset e = cc

  turned_no : (truth : Truth) → turn_of false truth ≡ No → truth ≡ Yes
  turned_no Yes e = refl
  turned_no No e = cc
  turned_no Unset e = cc

  module _ (live : List ℕ) where
    -- a leaf whose value is Yes is known to be true
    pub leaf_yes_to : (node : Node) → ((forall : ℕ) → node ≡ Forall forall → Contains live forall) →
        IsLeafTruth standing node Yes → IsYesLeaf (known_of standing) live node
    leaf_yes_to (Equal true s t) listed is = is
    leaf_yes_to (Equal false s t) listed is = record { not_same = is.0; kept = is.1 }
    leaf_yes_to (Atom true term) listed is = is
    leaf_yes_to (Atom false term) listed is = record { not_true = is.0; same = is.1 }
    leaf_yes_to (And parts) listed is = cc
    leaf_yes_to (Or parts) listed is = cc
    leaf_yes_to (Forall forall) listed is = listed forall refl

    -- one whose value is No is known to be false
    pub leaf_no_to : (node : Node) → ((forall : ℕ) → node ≡ Forall forall → ⊥) → IsLeafTruth standing node No →
        IsNoLeaf (known_of standing) live node
    leaf_no_to (Equal true s t) other is = record { not_same = is.0; kept = is.1 }
    leaf_no_to (Equal false s t) other is = is
    leaf_no_to (Atom true term) other is = record { not_true = is.0; same = is.1 }
    leaf_no_to (Atom false term) other is = is
    leaf_no_to (And parts) other is = cc
    leaf_no_to (Or parts) other is = cc
    leaf_no_to (Forall forall) other is = other forall refl

    -- a leaf that is known to be true has the value Yes
    pub leaf_yes_from : (node : Node) (truth : Truth) →
        ((forall : ℕ) → node ≡ Forall forall → Contains live forall → truth ≡ Yes) →
        IsLeafTruth standing node truth → IsYesLeaf (known_of standing) live node → truth ≡ Yes
    leaf_yes_from (Equal true s t) truth listed is known = equation_yes s t truth is known
    leaf_yes_from (Equal false s t) truth listed is known =
        turned_no truth (equation_no s t (turn_of false truth) is known.not_same known.kept)
    leaf_yes_from (Atom true term) truth listed is known = atom_yes term truth is known
    leaf_yes_from (Atom false term) truth listed is known =
        turned_no truth (atom_no term (turn_of false truth) is known.not_true known.same)
    leaf_yes_from (And parts) truth listed is known = absurd known
    leaf_yes_from (Or parts) truth listed is known = absurd known
    leaf_yes_from (Forall forall) truth listed is known = listed forall refl known

    -- one that is known to be false has the value No
    pub leaf_no_from : (node : Node) (truth : Truth) → IsLeafTruth standing node truth →
        IsNoLeaf (known_of standing) live node → truth ≡ No
    leaf_no_from (Equal true s t) truth is known = equation_no s t truth is known.not_same known.kept
    leaf_no_from (Equal false s t) truth is known =
        turned_yes truth (equation_yes s t (turn_of false truth) is known)
    leaf_no_from (Atom true term) truth is known = atom_no term truth is known.not_true known.same
    leaf_no_from (Atom false term) truth is known =
        turned_yes truth (atom_yes term (turn_of false truth) is known)
    leaf_no_from (And parts) truth is known = absurd known
    leaf_no_from (Or parts) truth is known = absurd known
    leaf_no_from (Forall forall) truth is known = absurd known

    -- what is known by itself is a leaf
    pub yes_leaf_kind : (node : Node) → IsYesLeaf (known_of standing) live node → kind_in node ≡ LeafKind
    yes_leaf_kind (Equal positive s t) known = refl
    yes_leaf_kind (Atom positive term) known = refl
    yes_leaf_kind (And parts) known = absurd known
    yes_leaf_kind (Or parts) known = absurd known
    yes_leaf_kind (Forall forall) known = refl

    pub no_leaf_kind : (node : Node) → IsNoLeaf (known_of standing) live node → kind_in node ≡ LeafKind
    no_leaf_kind (Equal positive s t) known = refl
    no_leaf_kind (Atom positive term) known = refl
    no_leaf_kind (And parts) known = absurd known
    no_leaf_kind (Or parts) known = absurd known
    no_leaf_kind (Forall forall) known = refl
