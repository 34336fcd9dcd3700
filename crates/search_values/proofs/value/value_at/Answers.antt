use Rattle.std.proofs.Common.{◌∙◌}
use Rattle.search_board.specs.Board.{kind_at, truth_at, places_at}
use Rattle.search_values.proofs.CountLemmas.{value_by-counts}
use Rattle.search_values.proofs.value.value_at.Goals as goal

pub returns : goal.returns
returns c =
    let board = c.args.board.now in
    c.value_by_counts.ensures ∙ rw (c.kind.ensures, c.truth.ensures, c.places.ensures, c.counts.ensures) (value_by-counts (kind_at board c.args.n) (truth_at board c.args.n) (places_at board c.args.n))
