use Rattle.std.proofs.Common.{◌<◌, length, sym, ◌∙◌, arith}
use Rattle.std.proofs.lemmas.List.{get_or_default}
use Rattle.smt_patterns.proofs.PlaceLemmas.{mark_again, mark_new}
use Rattle.smt_patterns.proofs.marks.mark.Goals as goal
use Rattle.smt_patterns.proofs.marks.mark.Goals.{else-i-len-via-then-i-len+else-index-place, else-i-len-via-else-i-len}

pub returns-then-index-place : goal.returns-then-index-place
returns-then-index-place c marks long are =
    let within : c.count_below-i.result < length c.args.places.now.items = omega (arith, c.len.ensures, c.if-i-len.true) in
    mark_again c.args.rows c.args.place c.count_below-i.result marks c.args.places.now.items c.if-place-rows.false are
    (c.count_below-i.ensures.is marks c.args.rows (omega (arith, c.if-place-rows.false)) (c.as_slice.ensures.value ∙ are)) within
    (get_or_default c.args.places.now.items c.count_below-i.result 0 c.index.result.now within ∙ sym c.index.ensures ∙ c.if-index-place.true)

pub returns : goal.returns
returns c marks long are =
    c.in_ok-insert.ensures.items ∙ mark_new c.args.rows c.args.place c.count_below-i.result marks c.args.places.now.items c.if-place-rows.false are
    (c.count_below-i.ensures.is marks c.args.rows (omega (arith, c.if-place-rows.false)) (c.as_slice.ensures.value ∙ are)) (omega (arith, long, c.if-place-rows.false))
    (elim c.else-i-len.branch [
      | else-i-len-via-then-i-len+else-index-place w ↦ λ within is. w.if-index-place.false (w.index.ensures ∙ get_or_default c.args.places.now.items c.count_below-i.result w.index.result.now 0 within ∙ is)
      | else-i-len-via-else-i-len w ↦ λ within is. absurd (omega (arith, within, c.len.ensures, w.if-i-len.false))
    ])
