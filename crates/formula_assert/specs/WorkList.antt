-- A step of asserting from a list of nodes that is worked off from its end.
use Rattle.std.specs.Prelude.{◌≡◌, ℕ, List, ◌++◌, reverse, slice_get, Some, Contains}
use Rattle.formula_table.specs.declared.node.Node.{Node}
use Rattle.formula_table.specs.Formulas.{Formulas}
use Rattle.formula_assert.specs.Held.{Held, conjuncts_of, holding}

-- the node was taken off the list: it stood asserted, or it holds now and its conjuncts are to come next
pub data AssertsNext (formulas : Formulas) (n : ℕ) (before : Held) (work : List ℕ) (after : Held)
    (rest : List ℕ) : Type 0 where
  stood : Contains before.asserted n → after ≡ before → rest ≡ work → AssertsNext formulas n before work after rest
  held_now : {node : Node} → (Contains before.asserted n → ⊥) → slice_get formulas.nodes n ≡ Some node →
      after ≡ holding formulas n node before → rest ≡ work ++ reverse (conjuncts_of node) →
      AssertsNext formulas n before work after rest
