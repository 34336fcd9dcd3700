-- The value of a formula, by what is known of terms and by the live foralls.
use Rattle.std.specs.Prelude.{◌≡◌, ℕ, ◌<◌, ◌⊎◌, true, false, List, length, slice_get, Some, Contains, All}
use Rattle.std.specs.List.{zip}
use Rattle.graph_meaning.specs.declared.done.Done.{Done}
use Rattle.graph_meaning.specs.Same.{Derives}
use Rattle.graph_meaning.specs.Known.{Known, known_of}
use Rattle.formula_table.specs.declared.node.Node.{Node}
use Rattle.formula_table.specs.declared.node.Node.TheVariants.{Equal, Atom, And, Or, Forall}
use Rattle.formula_truth.specs.declared.truth.Truth.{Truth}
use Rattle.formula_truth.specs.declared.truth.Truth.TheVariants.{Yes, No, Unset}
use Rattle.formula_value.specs.declared.facts.Facts.{Facts}
use Rattle.formula_value.specs.Holds.{Holds, Fails}

-- the two terms are equal
abbrev pub AreSame : Known → ℕ → ℕ → Type 0
AreSame known s t = Derives known.rows known.merges s t

-- the first two are equal to the last two, in either order
abbrev pub AreJoined : Known → ℕ → ℕ → ℕ → ℕ → Type 0
AreJoined known a b s t = (AreSame known a s × AreSame known b t) ⊎ (AreSame known a t × AreSame known b s)

-- some difference has its ends equal to the two terms
abbrev pub AreKeptApart : Known → ℕ → ℕ → Type 0
AreKeptApart known s t = (a : ℕ) × (b : ℕ) × Contains known.differs (a, b) × AreJoined known a b s t

-- the two terms are known to differ: they are not equal, and a difference keeps them apart
pub record AreApart (known : Known) (s t : ℕ) : Type 0 where
  pub not_same : AreSame known s t → ⊥
  pub kept : AreKeptApart known s t

-- the term is known to be false: it is not equal to the term of true, 0, and is to that of false, 1
pub record IsFalse (known : Known) (term : ℕ) : Type 0 where
  pub not_true : AreSame known term 0 → ⊥
  pub same : AreSame known term 1

-- the leaf is known to be true
abbrev pub IsYesLeaf : Known → List ℕ → Node → Type 0
IsYesLeaf known live (Equal true s t) = AreSame known s t
IsYesLeaf known live (Equal false s t) = AreApart known s t
IsYesLeaf known live (Atom true term) = AreSame known term 0
IsYesLeaf known live (Atom false term) = IsFalse known term
IsYesLeaf known live (Forall forall) = Contains live forall
IsYesLeaf known live (And parts) = ⊥
IsYesLeaf known live (Or parts) = ⊥

-- the leaf is known to be false; of a forall this is never known
abbrev pub IsNoLeaf : Known → List ℕ → Node → Type 0
IsNoLeaf known live (Equal true s t) = AreApart known s t
IsNoLeaf known live (Equal false s t) = AreSame known s t
IsNoLeaf known live (Atom true term) = IsFalse known term
IsNoLeaf known live (Atom false term) = AreSame known term 0
IsNoLeaf known live (Forall forall) = ⊥
IsNoLeaf known live (And parts) = ⊥
IsNoLeaf known live (Or parts) = ⊥

-- the formula is known to be true
abbrev pub IsYes : Known → List ℕ → List Node → ℕ → Type 0
IsYes known live nodes n = Holds nodes (IsYesLeaf known live) n

-- the formula is known to be false
abbrev pub IsNo : Known → List ℕ → List Node → ℕ → Type 0
IsNo known live nodes n = Fails nodes (IsNoLeaf known live) n

-- the value of the formula; it is Unset where it is neither Yes nor No
abbrev pub HasValue : Known → List ℕ → List Node → ℕ → Truth → Type 0
HasValue known live nodes n Yes = IsYes known live nodes n
HasValue known live nodes n No = IsNo known live nodes n
HasValue known live nodes n Unset = (IsYes known live nodes n → ⊥) × (IsNo known live nodes n → ⊥)

-- each difference has two ends, and they are terms
pub record AreFacts (terms : ℕ) (facts : Facts) : Type 0 where
  pub paired : length facts.differ_left ≡ length facts.differ_right
  pub left : All (λ term. term < terms) facts.differ_left
  pub right : All (λ term. term < terms) facts.differ_right

-- what a standing list says of terms, with the differences of these facts
abbrev pub known_with : List Done → Facts → Known
known_with standing facts = record (known_of standing) { differs = zip facts.differ_left facts.differ_right }

-- the value of the formula by a standing list and these facts
abbrev pub HasValueIn : List Done → Facts → List Node → ℕ → Truth → Type 0
HasValueIn standing facts nodes n truth = HasValue (known_with standing facts) facts.live nodes n truth

-- the values of the first so many formulas
pub record AreFirstValues (standing : List Done) (facts : Facts) (nodes : List Node) (count : ℕ)
    (values : List Truth) : Type 0 where
  pub so_many : length values ≡ count
  pub each : (n : ℕ) (truth : Truth) → slice_get values n ≡ Some truth → HasValueIn standing facts nodes n truth
