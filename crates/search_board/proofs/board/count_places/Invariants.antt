use Rattle.std.proofs.Common.{◌≡◌, take}
use Rattle.search_board.specs.Places.{counts_of}
use Rattle.search_board.proofs.board.count_places.Given as goal

abbrev pub invariant-loop-i : goal.invariant-loop-i
invariant-loop-i l = l.counts ≡ counts_of (take l.i l.places)
