use Rattle.std.proofs.Common.{ap, sym, ◌∙◌, arith}
use Rattle.search_board.specs.declared.counts.Counts.{Counts}
use Rattle.search_board.specs.Places.{count_more}
use Rattle.search_board.proofs.BoardLemmas.{counts_step}
use Rattle.search_board.proofs.board.count_places.Goals as goal

pub loop-i-preserved : goal.loop-i-preserved
loop-i-preserved c = c.counts_more-counts.ensures ∙ ap (λ (k : Counts). count_more k c.get.result) c.loop-i.invariant ∙ sym (counts_step c.args.places.now c.loop-i.i c.get.result c.get.ensures (omega arith))
