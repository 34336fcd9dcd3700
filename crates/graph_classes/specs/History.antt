-- What going back to a mark gives.
use Rattle.std.specs.Prelude.{◌≡◌, ◌≤◌, ℕ, List, length, drop}
use Rattle.graph_trail.specs.Undo.{state_before}
use Rattle.graph_classes.specs.declared.classes.Classes.{Classes}
use Rattle.graph_classes.specs.declared.change.Change.{Change}
use Rattle.graph_classes.specs.State.{State, state, before_change}

abbrev pub now : Classes → State
now classes = state classes.parts

abbrev pub notes : Classes → List Change
notes classes = classes.trail

-- what going back to a mark gives
abbrev pub state_at : Classes → ℕ → State
state_at classes mark = state_before before_change (drop mark (notes classes)) (now classes)

-- no note was lost, and going back to any mark that stood gives what it gave
pub record KeepsHistory (old new : Classes) : Type 0 where
  pub longer : length (notes old) ≤ length (notes new)
  pub at : (mark : ℕ) → mark ≤ length (notes old) → state_at new mark ≡ state_at old mark
