-- Values, units, open and stuck disjunctions, as they are defined.
use Rattle.std.specs.Prelude.{◌≡◌, ℕ, ◌<◌, Bool, true, false, List, [], length, slice_index_or}
use Rattle.formula_truth.specs.declared.truth.Truth.{Truth}
use Rattle.formula_truth.specs.declared.truth.Truth.TheVariants.{Yes, No, Unset}
use Rattle.search_board.specs.declared.kind.Kind.{Kind}
use Rattle.search_board.specs.declared.kind.Kind.TheVariants.{Leaf, And, Or}

-- nodes by number, the values of leaves, which nodes are asserted, and which places are struck
pub record Given : Type 0 where
  pub kinds : List Kind
  pub parts : List (List ℕ)
  pub leaf : ℕ → Truth
  pub asserted : ℕ → Bool
  pub struck : ℕ → ℕ → Bool

-- the kind of a node
abbrev pub kind_of : Given → ℕ → Kind
kind_of given n = slice_index_or given.kinds n Leaf

-- the parts of a node
abbrev pub parts_of : Given → ℕ → List ℕ
parts_of given n = slice_index_or given.parts n []

-- the part at a place of a node
abbrev pub part_of : Given → ℕ → ℕ → ℕ
part_of given n i = slice_index_or (parts_of given n) i 0

-- the node has this place
abbrev pub HasPlace : Given → ℕ → ℕ → Type 0
HasPlace given n i = i < length (parts_of given n)

-- the value of the node is Yes: a leaf's, where it is given; a conjunction's, where that of each part is; a
-- disjunction's, where that of some part is
pub data HasYes (given : Given) : ℕ → Type 0 where
  leaf : {n : ℕ} → kind_of given n ≡ Leaf → given.leaf n ≡ Yes → HasYes given n
  every : {n : ℕ} → kind_of given n ≡ And → ((i : ℕ) → HasPlace given n i → HasYes given (part_of given n i)) →
      HasYes given n
  some : {n i : ℕ} → kind_of given n ≡ Or → HasPlace given n i → HasYes given (part_of given n i) → HasYes given n

-- the value of the node is No: a leaf's, where it is given; a conjunction's, where that of some part is; a
-- disjunction's, where that of each part is
pub data HasNo (given : Given) : ℕ → Type 0 where
  leaf : {n : ℕ} → kind_of given n ≡ Leaf → given.leaf n ≡ No → HasNo given n
  some : {n i : ℕ} → kind_of given n ≡ And → HasPlace given n i → HasNo given (part_of given n i) → HasNo given n
  every : {n : ℕ} → kind_of given n ≡ Or → ((i : ℕ) → HasPlace given n i → HasNo given (part_of given n i)) →
      HasNo given n

-- the value of the node; it is Unset where it is neither Yes nor No
abbrev pub HasValue : Given → ℕ → Truth → Type 0
HasValue given n Yes = HasYes given n
HasValue given n No = HasNo given n
HasValue given n Unset = (HasYes given n → ⊥) × (HasNo given n → ⊥)

-- an asserted disjunction
pub record IsAssertedOr (given : Given) (n : ℕ) : Type 0 where
  pub is_or : kind_of given n ≡ Or
  pub asserted : given.asserted n ≡ true

-- the part at the place is neither No nor struck
pub record IsLeftOver (given : Given) (n i : ℕ) : Type 0 where
  pub place : HasPlace given n i
  pub not_no : HasNo given (part_of given n i) → ⊥
  pub not_struck : given.struck n i ≡ false

-- no part is Yes
abbrev pub HasNoYesPart : Given → ℕ → Type 0
HasNoYesPart given n = (i : ℕ) → HasPlace given n i → HasYes given (part_of given n i) → ⊥

-- some part is Yes
abbrev pub HasYesPart : Given → ℕ → Type 0
HasYesPart given n = (i : ℕ) × HasPlace given n i × HasYes given (part_of given n i)

-- an asserted disjunction without a Yes part, whose one part left over isn't asserted
pub record IsUnit (given : Given) (n i : ℕ) : Type 0 where
  pub is_or : IsAssertedOr given n
  pub no_yes : HasNoYesPart given n
  pub left : IsLeftOver given n i
  pub only : (j : ℕ) → IsLeftOver given n j → j ≡ i
  pub not_asserted : given.asserted (part_of given n i) ≡ false

-- the first such disjunction
pub record IsFirstUnit (given : Given) (n i : ℕ) : Type 0 where
  pub is_unit : IsUnit given n i
  pub first : (m j : ℕ) → m < n → IsUnit given m j → ⊥

-- an asserted disjunction without a Yes part
pub record IsOpen (given : Given) (n : ℕ) : Type 0 where
  pub is_or : IsAssertedOr given n
  pub no_yes : HasNoYesPart given n

-- the disjunction and the place that are split
pub record IsSplit (given : Given) (n i : ℕ) : Type 0 where
  pub is_open : IsOpen given n
  pub first : (m : ℕ) → m < n → IsOpen given m → ⊥
  pub left : IsLeftOver given n i
  pub first_left : (j : ℕ) → j < i → IsLeftOver given n j → ⊥

-- an asserted disjunction with nothing left over
pub record IsStuck (given : Given) (n : ℕ) : Type 0 where
  pub is_or : IsAssertedOr given n
  pub none : (i : ℕ) → IsLeftOver given n i → ⊥
