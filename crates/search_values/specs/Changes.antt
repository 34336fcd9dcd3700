-- How what is given changes.
use Rattle.std.specs.Prelude.{◌≡◌, ℕ, true, List, [], ◌∷◌, ◌++◌, length, false, ◌<◌}
use Rattle.formula_truth.specs.declared.truth.Truth.{Truth}
use Rattle.formula_truth.specs.declared.truth.Truth.TheVariants.{Unset}
use Rattle.search_board.specs.declared.kind.Kind.{Kind}
use Rattle.search_values.specs.Given.{Given}

-- a leaf gets a value
pub record SetsLeaf (n : ℕ) (truth : Truth) (old new : Given) : Type 0 where
  pub kinds : new.kinds ≡ old.kinds
  pub parts : new.parts ≡ old.parts
  pub here : new.leaf n ≡ truth
  pub others : (m : ℕ) → (m ≡ n → ⊥) → new.leaf m ≡ old.leaf m
  pub asserted : (m : ℕ) → new.asserted m ≡ old.asserted m
  pub struck : (m i : ℕ) → new.struck m i ≡ old.struck m i

-- a node is asserted, by itself
pub record Asserts (n : ℕ) (old new : Given) : Type 0 where
  pub kinds : new.kinds ≡ old.kinds
  pub parts : new.parts ≡ old.parts
  pub leaf : (m : ℕ) → new.leaf m ≡ old.leaf m
  pub here : new.asserted n ≡ true
  pub others : (m : ℕ) → (m ≡ n → ⊥) → new.asserted m ≡ old.asserted m
  pub struck : (m i : ℕ) → new.struck m i ≡ old.struck m i

-- a place is struck
pub record Strikes (n i : ℕ) (old new : Given) : Type 0 where
  pub kinds : new.kinds ≡ old.kinds
  pub parts : new.parts ≡ old.parts
  pub leaf : (m : ℕ) → new.leaf m ≡ old.leaf m
  pub asserted : (m : ℕ) → new.asserted m ≡ old.asserted m
  pub here : new.struck n i ≡ true
  pub others : (m j : ℕ) → (m ≡ n → j ≡ i → ⊥) → new.struck m j ≡ old.struck m j

-- a node comes last, over these parts: it is not asserted, none of its places is struck, and no value is told of it
-- where it is a leaf
pub record EntersNode (kind : Kind) (parts : List ℕ) (old new : Given) : Type 0 where
  pub kinds : new.kinds ≡ old.kinds ++ kind ∷ []
  pub parts_are : new.parts ≡ old.parts ++ parts ∷ []
  pub leaf : (m : ℕ) → m < length old.kinds → new.leaf m ≡ old.leaf m
  pub leaf_here : new.leaf (length old.kinds) ≡ Unset
  pub asserted : (m : ℕ) → new.asserted m ≡ old.asserted m
  pub asserted_here : new.asserted (length old.kinds) ≡ false
  pub struck : (m i : ℕ) → m < length old.kinds → new.struck m i ≡ old.struck m i
  pub struck_here : (i : ℕ) → new.struck (length old.kinds) i ≡ false
