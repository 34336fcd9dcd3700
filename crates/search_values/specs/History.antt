-- What going back to a mark gives.
use Rattle.std.specs.Prelude.{◌≡◌, ◌≤◌, ℕ, List, length, drop}
use Rattle.graph_trail.specs.Undo.{state_before}
use Rattle.search_board.specs.declared.change.Change.{Change}
use Rattle.search_board.specs.Board.{Shown}
use Rattle.search_board.specs.Undo.{before_change}
use Rattle.search_values.specs.declared.noted.Noted.{Noted}

-- the board as it is
abbrev pub now : Noted → Shown
now noted = noted.board

-- the notes of its changes
abbrev pub notes : Noted → List Change
notes noted = noted.trail

-- what going back to a mark gives
abbrev pub board_at : Noted → ℕ → Shown
board_at noted mark = state_before before_change (drop mark (notes noted)) (now noted)

-- no note was lost, and going back to any mark that stood gives what it gave
pub record KeepsHistory (old new : Noted) : Type 0 where
  pub longer : length (notes old) ≤ length (notes new)
  pub at : (mark : ℕ) → mark ≤ length (notes old) → board_at new mark ≡ board_at old mark
