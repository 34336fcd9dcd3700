-- Truth of formulas, by any property of leaves. No conjunction and no disjunction is to have the property.
use Rattle.std.specs.Prelude.{◌≡◌, ℕ, List, slice_get, Some, Contains}
use Rattle.formula_table.specs.declared.node.Node.{Node}
use Rattle.formula_table.specs.declared.node.Node.TheVariants.{And, Or}

-- the formula with this number is this node
abbrev pub HasNode : List Node → ℕ → Node → Type 0
HasNode nodes n node = slice_get nodes n ≡ Some node

-- the formula is true, where the leaves with the property are
pub data Holds (nodes : List Node) (leaf : Node → Type 0) : ℕ → Type 0 where
  literal : {n : ℕ} {node : Node} → HasNode nodes n node → leaf node → Holds nodes leaf n
  every : {n : ℕ} {parts : List ℕ} → HasNode nodes n (And parts) →
      ((part : ℕ) → Contains parts part → Holds nodes leaf part) → Holds nodes leaf n
  some : {n part : ℕ} {parts : List ℕ} → HasNode nodes n (Or parts) → Contains parts part → Holds nodes leaf part →
      Holds nodes leaf n

-- the formula is false, where the leaves with the property are
pub data Fails (nodes : List Node) (leaf : Node → Type 0) : ℕ → Type 0 where
  literal : {n : ℕ} {node : Node} → HasNode nodes n node → leaf node → Fails nodes leaf n
  some : {n part : ℕ} {parts : List ℕ} → HasNode nodes n (And parts) → Contains parts part → Fails nodes leaf part →
      Fails nodes leaf n
  every : {n : ℕ} {parts : List ℕ} → HasNode nodes n (Or parts) →
      ((part : ℕ) → Contains parts part → Fails nodes leaf part) → Fails nodes leaf n

-- each leaf that stands in the formula has the property
pub data Everywhere (nodes : List Node) (leaf : Node → Type 0) : ℕ → Type 0 where
  literal : {n : ℕ} {node : Node} → HasNode nodes n node → leaf node → Everywhere nodes leaf n
  conjunction : {n : ℕ} {parts : List ℕ} → HasNode nodes n (And parts) →
      ((part : ℕ) → Contains parts part → Everywhere nodes leaf part) → Everywhere nodes leaf n
  disjunction : {n : ℕ} {parts : List ℕ} → HasNode nodes n (Or parts) →
      ((part : ℕ) → Contains parts part → Everywhere nodes leaf part) → Everywhere nodes leaf n
