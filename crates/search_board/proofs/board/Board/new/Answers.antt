use Rattle.search_board.proofs.BoardLemmas.{sound_none}
use Rattle.search_board.proofs.board.Board.new.Goals as goal

pub invariant_of-result : goal.invariant_of-result
invariant_of-result c =
    let sets = c.in_ok-new.field-0 in
    let done = sound_none c.args.height sets.units sets.opens sets.stuck c.requires c.in_ok-new.ensures.units c.in_ok-new.ensures.opens c.in_ok-new.ensures.stuck in
    rw (c.new.ensures.items, c.new-2.ensures.items, c.new-3.ensures.items, c.new-4.ensures.items, c.new-5.ensures.items, c.in_ok-new.ensures.height) done
