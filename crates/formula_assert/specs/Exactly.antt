-- What is held is exactly what the asserted nodes stand for.
use Rattle.std.specs.Prelude.{◌≡◌, ℕ, List, [], ◌∷◌, map, slice_get, Some, Contains}
use Rattle.graph_trigger.specs.declared.trigger.Trigger.{Trigger}
use Rattle.graph_meaning.specs.declared.op.Op.{Op}
use Rattle.graph_meaning.specs.declared.op.Op.TheVariants.{Merge, Differ, Live, Pop}
use Rattle.graph_meaning.specs.declared.done.Done.{Done}
use Rattle.graph_meaning.specs.State.{GraphState, state_after}
use Rattle.formula_table.specs.declared.node.Node.{Node}
use Rattle.formula_table.specs.Formulas.{Formulas}
use Rattle.formula_assert.specs.Held.{Held, held, operations_of, conjuncts_of}
use Rattle.formula_assert.specs.Assertions.{Saved, Assertions, held_of}

-- the operations that stand, without their serials
abbrev pub operations_in : List Done → List Op
operations_in standing = map (λ done. done.op) standing

-- the operations of the node stand, and its conjuncts are asserted
pub record IsDone (formulas : Formulas) (now : Held) (node : Node) : Type 0 where
  pub operations : (op : Op) → Contains (operations_of formulas node) op →
      Contains (operations_in now.graph.standing) op
  pub conjuncts : (part : ℕ) → Contains (conjuncts_of node) part → Contains now.asserted part

-- the operation is one of an asserted node
pub record IsOfAsserted (formulas : Formulas) (now : Held) (op : Op) : Type 0 where
  pub n : ℕ
  pub node : Node
  pub asserted : Contains now.asserted n
  pub has : slice_get formulas.nodes n ≡ Some node
  pub of_node : Contains (operations_of formulas node) op

-- each asserted node stands in the table, and what it stands for is done; and each equation, each disequation and each
-- live trigger that stands comes from an asserted node
pub record HoldsExactly (formulas : Formulas) (now : Held) : Type 0 where
  pub nodes : (n : ℕ) → Contains now.asserted n →
      (node : Node) × (slice_get formulas.nodes n ≡ Some node) × IsDone formulas now node
  pub merges : (s t : ℕ) → Contains (operations_in now.graph.standing) (Merge s t) →
      IsOfAsserted formulas now (Merge s t)
  pub differs : (s t : ℕ) → Contains (operations_in now.graph.standing) (Differ s t) →
      IsOfAsserted formulas now (Differ s t)
  pub lives : (trigger : Trigger) → Contains (operations_in now.graph.standing) (Live trigger) →
      IsOfAsserted formulas now (Live trigger)

-- what would stand if the levels ended, from the innermost to the outermost, was exact
abbrev pub WereExact : GraphState → List Saved → Type 0
WereExact graph [] = Unit {0}
WereExact graph (level ∷ saved) = HoldsExactly level.formulas (held (state_after graph Pop) level.asserted) ×
    WereExact (state_after graph Pop) saved

-- what is held is exactly what the asserted nodes stand for, now and as it stood when each level was opened
pub record AreExact (now : Assertions) : Type 0 where
  pub present : HoldsExactly now.formulas (held_of now)
  pub saved : WereExact now.graph now.saved
