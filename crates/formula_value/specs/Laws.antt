-- Laws of values.
use Rattle.std.specs.Prelude.{◌≡◌, ◌⊎◌, ℕ, List}
use Rattle.graph_meaning.specs.Known.{Known}
use Rattle.formula_table.specs.declared.node.Node.{Node}
use Rattle.formula_truth.specs.declared.truth.Truth.{Truth}
use Rattle.formula_value.specs.Holds.{Everywhere}
use Rattle.formula_value.specs.Value.{IsYesLeaf, IsNoLeaf, IsYes, IsNo, HasValue}

-- no formula is both Yes and No, so it has one value
pub record HasOneValue : Type 0 where
  pub not_both : (known : Known) (live : List ℕ) (nodes : List Node) (n : ℕ) → IsYes known live nodes n →
      IsNo known live nodes n → ⊥
  pub one : (known : Known) (live : List ℕ) (nodes : List Node) (n : ℕ) (a b : Truth) →
      HasValue known live nodes n a → HasValue known live nodes n b → a ≡ b

-- the leaf is known to be true or known to be false
abbrev pub IsSetLeaf : Known → List ℕ → Node → Type 0
IsSetLeaf known live node = IsYesLeaf known live node ⊎ IsNoLeaf known live node

-- a formula each leaf of which is known to be true or false is Yes or No
pub record IsSetByLeaves : Type 0 where
  pub is_set : (known : Known) (live : List ℕ) (nodes : List Node) (n : ℕ) →
      Everywhere nodes (IsSetLeaf known live) n → IsYes known live nodes n ⊎ IsNo known live nodes n

-- what is known of leaves is still known
pub record StaysOfLeaves (old new : Known) (live more : List ℕ) : Type 0 where
  pub yes : (node : Node) → IsYesLeaf old live node → IsYesLeaf new more node
  pub no : (node : Node) → IsNoLeaf old live node → IsNoLeaf new more node

-- where what is known of leaves is still known, so is what is known of formulas
pub record StaysOfFormulas : Type 0 where
  pub yes : (old new : Known) (live more : List ℕ) (nodes : List Node) (n : ℕ) → StaysOfLeaves old new live more →
      IsYes old live nodes n → IsYes new more nodes n
  pub no : (old new : Known) (live more : List ℕ) (nodes : List Node) (n : ℕ) → StaysOfLeaves old new live more →
      IsNo old live nodes n → IsNo new more nodes n
