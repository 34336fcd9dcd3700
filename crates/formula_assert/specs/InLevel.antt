-- What may come in a level, and goes with it.
use Rattle.std.specs.Prelude.{◌≡◌, ℕ, List, ◌++◌, All}
use Rattle.graph_meaning.specs.declared.op.Op.{Op}
use Rattle.graph_meaning.specs.declared.op.Op.TheVariants.{Push, Pop}
use Rattle.graph_meaning.specs.State.{GraphState, replay}
use Rattle.formula_table.specs.Formulas.{GrowsTable}
use Rattle.formula_assert.specs.Held.{Held}
use Rattle.formula_assert.specs.Assertions.{Assertions, held_of}

-- the operation opens no level and ends none
abbrev pub IsInLevel : Op → Type 0
IsInLevel Push = ⊥
IsInLevel Pop = ⊥
IsInLevel op = Unit {0}

-- the later graph is the earlier one after operations that open no level and end none
pub record GrowsGraph (before after : GraphState) : Type 0 where
  pub operations : List Op
  pub in_level : All IsInLevel operations
  pub after_is : after ≡ replay before operations

-- the graph grew, and perhaps more nodes are asserted
pub record HoldsMore (before after : Held) : Type 0 where
  pub grows : GrowsGraph before.graph after.graph
  pub more : List ℕ
  pub asserted_are : after.asserted ≡ before.asserted ++ more

-- what stood stands, with more behind it, and the levels are as before
pub record KeepsLevels (before after : Assertions) : Type 0 where
  pub holds_more : HoldsMore (held_of before) (held_of after)
  pub formulas_grow : GrowsTable before.formulas after.formulas
  pub saved_are : after.saved ≡ before.saved

-- more is held, over the same formulas and in the same levels
pub record HoldsMoreOver (before after : Assertions) : Type 0 where
  pub holds_more : HoldsMore (held_of before) (held_of after)
  pub formulas_are : after.formulas ≡ before.formulas
  pub saved_are : after.saved ≡ before.saved

-- the same stands, though perhaps more operations were done
pub record StandAlike (one other : Assertions) : Type 0 where
  pub standing : other.graph.standing ≡ one.graph.standing
  pub limit : other.graph.limit ≡ one.graph.limit
  pub formulas : other.formulas ≡ one.formulas
  pub asserted : other.asserted ≡ one.asserted
  pub saved : other.saved ≡ one.saved
