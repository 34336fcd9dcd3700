-- What was there before a change of a board.
use Rattle.std.specs.Prelude.{◌≡◌}
use Rattle.search_board.specs.declared.change.Change.{Change}
use Rattle.search_board.specs.declared.change.Change.TheVariants.{Entered, Valued, Asserted, Told}
use Rattle.search_board.specs.Board.{Shown, with_truth, with_asserted, with_place, without_node}

-- what is shown before a change, from what is shown after it
abbrev pub before_change : Shown → Change → Shown
before_change shown Entered = without_node shown
before_change shown (Valued n old) = with_truth shown n old
before_change shown (Asserted n old) = with_asserted shown n old
before_change shown (Told n i old) = with_place shown n i old

-- the change is undone
abbrev pub Undone : Shown → Change → Shown → Type 0
Undone after change undone = undone ≡ before_change after change

-- so what was there before the change is there again
pub undone_gives_before : (after : Shown) (change : Change) (undone : Shown) →
    Undone after change undone → undone ≡ before_change after change
undone_gives_before after change undone is = is
