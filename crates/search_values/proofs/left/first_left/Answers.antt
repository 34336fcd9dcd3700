use Rattle.std.proofs.Common.{arith}
use Rattle.search_board.specs.Places.{is_left_place}
use Rattle.search_board.specs.Board.{blank, places_at}
use Rattle.search_values.proofs.PassLemmas.{count_none}
use Rattle.search_values.proofs.left.first_left.Goals as goal

pub unreachable-requires : goal.unreachable-requires
unreachable-requires c =
    let none = count_none is_left_place blank (places_at c.args.board.now c.args.n) (λ j h. c.loop-i.invariant j (omega arith)) in
    omega (arith, none, c.requires.some)
