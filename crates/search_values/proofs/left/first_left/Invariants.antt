use Rattle.std.proofs.Common.{◌≡◌, ℕ, ◌<◌, false}
use Rattle.search_board.specs.Places.{is_left_place}
use Rattle.search_board.specs.Board.{place_at}
use Rattle.search_values.proofs.left.first_left.Given as goal

abbrev pub invariant-loop-i : goal.invariant-loop-i
invariant-loop-i l = (j : ℕ) → j < l.i → is_left_place (place_at l.board l.n j) ≡ false
