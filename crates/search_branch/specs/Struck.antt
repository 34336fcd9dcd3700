-- Places of disjunctions that are struck.
use Rattle.std.specs.Prelude.{◌≡◌, ◌⊎◌, ◌↔◌, ℕ, true, List, slice_get, Some, Contains}
use Rattle.formula_table.specs.declared.node.Node.{Node}
use Rattle.formula_table.specs.declared.node.Node.TheVariants.{Or}
use Rattle.formula_value.specs.Holds.{HasNode}
use Rattle.search_values.specs.Given.{Given}

-- the first is a disjunction, and the second a place of it
pub record IsPlaceOf (nodes : List Node) (at : ℕ × ℕ) : Type 0 where
  pub parts : List ℕ
  pub part : ℕ
  pub is_or : HasNode nodes at.0 (Or parts)
  pub at_place : slice_get parts at.1 ≡ Some part

-- these places are struck now beside those that were, and nothing else changed
pub record StrikesAll (places : List (ℕ × ℕ)) (old new : Given) : Type 0 where
  pub kinds : new.kinds ≡ old.kinds
  pub parts : new.parts ≡ old.parts
  pub leaf : (n : ℕ) → new.leaf n ≡ old.leaf n
  pub asserted : (n : ℕ) → new.asserted n ≡ old.asserted n
  pub struck : (n place : ℕ) →
      (new.struck n place ≡ true) ↔ ((old.struck n place ≡ true) ⊎ Contains places (n, place))
