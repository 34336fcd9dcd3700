-- A node that was entered, asserted or refuted.
use Rattle.std.proofs.Common.{◌≡◌, ℕ, true, false, List, [], length, Result, Ok, Err, All, refl, sym, subst, append-nil}
use Rattle.std.specs.Prelude.{OnOk, OnErr}
use Rattle.std.proofs.lemmas.List.Elements.{All-nil}
use Rattle.graph_meaning.specs.declared.op.Op.TheVariants.{Merge, Differ}
use Rattle.graph_meaning.specs.Standing.{terms_of}
use Rattle.graph_meaning.specs.State.{GraphState, replay}
use Rattle.formula_table.specs.declared.node.Node.{Node}
use Rattle.formula_table.specs.declared.node.Node.TheVariants.{Equal, Atom, And, Or, Forall}
use Rattle.formula_table.specs.Formulas.{Formulas}
use Rattle.formula_assert.specs.declared.level.Level.{Level}
use Rattle.formula_assert.specs.Held.{held, refuting_of}
use Rattle.formula_assert.specs.InLevel.{IsInLevel, GrowsGraph, HoldsMore, HoldsMoreOver}
use Rattle.formula_assert.specs.StackInside.{IsStackOf, assertions_with}
use Rattle.formula_assert.proofs.Growth.{one_inside, grows_none, terms_longer, NodesStand-more}
use Rattle.formula_assert.proofs.StackLemmas.{grows_nothing, saved_same, stack_grown}

-- what refutes a node opens no level and ends none
refuting_inside : (node : Node) → All IsInLevel (refuting_of node)
refuting_inside (Equal true left right) = one_inside (Differ left right) tt
refuting_inside (Equal false left right) = one_inside (Merge left right) tt
refuting_inside (Atom true term) = one_inside (Merge term 1) tt
refuting_inside (Atom false term) = one_inside (Merge term 0) tt
refuting_inside (And parts) = All-nil IsInLevel
refuting_inside (Or parts) = All-nil IsInLevel
refuting_inside (Forall forall) = All-nil IsInLevel

-- a node was refuted, or nothing was done
pub refuted_grows : {U E : Type 0} (before after : GraphState) (node : Node) (result : Result U E) →
    OnOk result (after ≡ replay before (refuting_of node)) → OnErr result (after ≡ before) → GrowsGraph before after
refuted_grows before after node (Ok u) ok err =
    record { operations = refuting_of node; in_level = refuting_inside node; after_is = ok }
refuted_grows before after node (Err e) ok err = subst (GrowsGraph before) (sym err) (grows_none before)

-- more is held, over the same formulas
module _ (graph later : GraphState) (table : Formulas) (asserted after : List ℕ) (items : List Level)
    (stack : IsStackOf graph table asserted items) (more : HoldsMore (held graph asserted) (held later after)) where
  -- the stack is one
  pub held_stack : IsStackOf later table after items
  held_stack =
      stack_grown graph later table table asserted after more.more items stack more.grows
      (grows_nothing table table refl) more.asserted_are
      (NodesStand-more (length (terms_of graph.standing)) (length (terms_of later.standing)) table.nodes
      (terms_longer graph later more.grows) stack.terms_stand)

  -- in the same levels
  pub held_over : HoldsMoreOver (assertions_with graph table asserted items) (assertions_with later table after items)
  held_over = record {
    holds_more = more;
    formulas_are = refl;
    saved_are = saved_same graph later table table asserted after more.more items stack more.grows
        (grows_nothing table table refl) more.asserted_are;
  }

-- the graph grew, and no more nodes are asserted
pub same_nodes : (graph later : GraphState) (asserted : List ℕ) → GrowsGraph graph later →
    HoldsMore (held graph asserted) (held later asserted)
same_nodes graph later asserted grows = record {
  grows = grows;
  more = [];
  asserted_are = sym (append-nil asserted);
}
