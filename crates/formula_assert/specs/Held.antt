-- What is held true, and what a node of the table of formulas stands for by itself.
use Rattle.std.specs.Prelude.{ℕ, true, false, List, [], ◌∷◌, ◌++◌, map, slice_get}
use Rattle.std.specs.Option.{option_map_or}
use Rattle.graph_trigger.specs.declared.trigger.Trigger.{Trigger}
use Rattle.graph_meaning.specs.declared.op.Op.{Op}
use Rattle.graph_meaning.specs.declared.op.Op.TheVariants.{Merge, Differ, Live}
use Rattle.graph_meaning.specs.State.{GraphState, replay}
use Rattle.formula_table.specs.declared.node.Node.{Node}
use Rattle.formula_table.specs.declared.node.Node.TheVariants.{Equal, Atom, And, Or, Forall}
use Rattle.formula_table.specs.declared.table_forall.TableForall.{TableForall}
use Rattle.formula_table.specs.Formulas.{Formulas}

-- a graph, and the numbers of the asserted nodes in the order in which they were asserted
pub record Held : Type 0 where
  pub graph : GraphState
  pub asserted : List ℕ

-- this graph and these nodes
abbrev pub held : GraphState → List ℕ → Held
held graph asserted = record { graph = graph; asserted = asserted }

-- the triggers of the forall with this number, in order
abbrev pub triggers_at : List TableForall → ℕ → List Trigger
triggers_at foralls n = option_map_or (λ forall. forall.triggers) (slice_get foralls n) []

-- the operations that a node stands for by itself: an equation merges its terms and a disequation keeps them apart,
-- an atom is merged with true or with false, a forall's triggers become live in order, and a connective does nothing
abbrev pub operations_of : Formulas → Node → List Op
operations_of formulas (Equal true left right) = Merge left right ∷ []
operations_of formulas (Equal false left right) = Differ left right ∷ []
operations_of formulas (Atom true term) = Merge term 0 ∷ []
operations_of formulas (Atom false term) = Merge term 1 ∷ []
operations_of formulas (And parts) = []
operations_of formulas (Or parts) = []
operations_of formulas (Forall forall) = map Live (triggers_at formulas.foralls forall)

-- the operations that refute a literal: the terms of an equation are kept apart and those of a disequation merged, and
-- an atom is merged with the other truth; for the other nodes there are none
abbrev pub refuting_of : Node → List Op
refuting_of (Equal true left right) = Differ left right ∷ []
refuting_of (Equal false left right) = Merge left right ∷ []
refuting_of (Atom true term) = Merge term 1 ∷ []
refuting_of (Atom false term) = Merge term 0 ∷ []
refuting_of (And parts) = []
refuting_of (Or parts) = []
refuting_of (Forall forall) = []

-- the nodes that hold where a node does: the parts of a conjunction
abbrev pub conjuncts_of : Node → List ℕ
conjuncts_of (Equal positive left right) = []
conjuncts_of (Atom positive term) = []
conjuncts_of (And parts) = parts
conjuncts_of (Or parts) = []
conjuncts_of (Forall forall) = []

-- the node is put last among the asserted ones, and its operations are done
abbrev pub holding : Formulas → ℕ → Node → Held → Held
holding formulas n node before = held (replay before.graph (operations_of formulas node)) (before.asserted ++ n ∷ [])
