use Rattle.std.proofs.Common.{List, ℕ, take, get_or, sym, ap, ◌∙◌}
use Rattle.std.proofs.lemmas.List.{take_more}
use Rattle.smt_patterns.specs.Patterns.{marked}
use Rattle.smt_patterns.specs.Places.{places_below}
use Rattle.smt_patterns.proofs.ReachLemmas.{marked_length, marked_push}
use Rattle.smt_patterns.proofs.marks.mark_all.Goals as goal

pub loop-place-preserved : goal.loop-place-preserved
loop-place-preserved c marks long are =
    let before = take c.loop-place.place-index c.args.more.now in
    c.in_ok-mark.ensures (marked before marks) (marked_length before marks ∙ long) (c.loop-place.invariant marks long are)
    ∙ ap (places_below c.args.rows) (sym (ap (λ (ns : List ℕ). marked ns marks) (take_more c.args.more.now c.loop-place.place-index 0 c.loop-place-test.true) ∙ marked_push before (get_or c.args.more.now c.loop-place.place-index 0) marks))
