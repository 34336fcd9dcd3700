-- What `NodeValues` keeps true of its fields.
use Rattle.std.specs.Prelude.{ℕ, ◌<◌, ◌≤◌, List, length, map, slice_index}
use Rattle.search_board.specs.Board.{Shown}
use Rattle.search_values.specs.declared.noted.Noted.{Noted}
use Rattle.search_values.specs.declared.node_values.NodeValues.TheInside.{Inside}
use Rattle.search_values.specs.Wiring.{Wires, IsWired, front}
use Rattle.search_values.specs.History.{now, notes, board_at}
use Rattle.search_values.specs.Settled.{AreWires, IsSettled}
use Rattle.search_values.specs.Kept.{Kept}

-- the nodes, the board, and the boards to which the marks of the levels lead back
abbrev pub kept_of : Inside → Kept
kept_of inside = record {
  parts = inside.wiring.parts;
  shown = now inside.noted;
  saved = map (board_at inside.noted) inside.levels.items;
}

-- the board is of the nodes and settled
pub record IsRight (wires : Wires) (shown : Shown) : Type 0 where
  pub wired : IsWired wires
  pub are : AreWires wires shown
  pub settled : IsSettled wires shown

-- the board is of the first nodes, and settled
pub record IsRightFront (wires : Wires) (shown : Shown) : Type 0 where
  pub are : AreWires (front wires (length shown.kinds)) shown
  pub settled : IsSettled (front wires (length shown.kinds)) shown

-- the marks of levels stand in order, the boards at them are right, and none has more nodes than one after it
pub record AreLevels (wires : Wires) (noted : Noted) (levels : List ℕ) : Type 0 where
  pub stand : (k : ℕ) → k < length levels → slice_index levels k ≤ length (notes noted)
  pub ascend : (j k : ℕ) → j ≤ k → k < length levels → slice_index levels j ≤ slice_index levels k
  pub right : (k : ℕ) → k < length levels → IsRightFront wires (board_at noted (slice_index levels k))
  pub rising : (j k : ℕ) → j ≤ k → k < length levels →
      length (board_at noted (slice_index levels j)).kinds ≤ length (board_at noted (slice_index levels k)).kinds

-- the board is right, and so are the levels
pub record IsKept (inside : Inside) : Type 0 where
  pub right : IsRight inside.wiring (now inside.noted)
  pub levels : AreLevels inside.wiring inside.noted inside.levels.items
