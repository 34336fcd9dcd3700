-- What it is to assert a node of the table of formulas.
use Rattle.std.specs.Prelude.{◌≡◌, ℕ, List, [], ◌∷◌, slice_get, Some, Contains}
use Rattle.formula_table.specs.declared.node.Node.{Node}
use Rattle.formula_table.specs.Formulas.{Formulas}
use Rattle.formula_assert.specs.Held.{Held, conjuncts_of, holding}

mutual
  -- to assert a node: where it is asserted nothing happens, and else it holds, and then its conjuncts are asserted
  pub data Asserts (formulas : Formulas) : ℕ → Held → Held → Type 0 where
    stands : {n : ℕ} {before : Held} → Contains before.asserted n → Asserts formulas n before before
    holds : {n : ℕ} {node : Node} {before after : Held} → (Contains before.asserted n → ⊥) →
        slice_get formulas.nodes n ≡ Some node → AssertsAll formulas (conjuncts_of node)
        (holding formulas n node before) after → Asserts formulas n before after

  -- to assert some nodes, in order
  pub data AssertsAll (formulas : Formulas) : List ℕ → Held → Held → Type 0 where
    none : {before : Held} → AssertsAll formulas [] before before
    more : {n : ℕ} {ns : List ℕ} {before between after : Held} → Asserts formulas n before between →
        AssertsAll formulas ns between after → AssertsAll formulas (n ∷ ns) before after
