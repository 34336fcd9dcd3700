use Rattle.std.proofs.Common.{◌<◌, List, ℕ, length, take, set, get_or, true, subst, sym, arith}
use Rattle.std.proofs.lemmas.List.{take_all}
use Rattle.graph_terms.proofs.ListLaws.{take-slice_get}
use Rattle.std.proofs.lemmas.Option.{slice_get-get_or}
use Rattle.formula_table.specs.Marks.{Marks}
use Rattle.formula_table.proofs.MarkLemmas.{Marks-none, Marks-more}
use Rattle.formula_table.proofs.reached.mark.Goals as goal

pub loop-place-init : goal.loop-place-init
loop-place-init c = Marks-none c.args.marks.now

pub loop-place-preserved : goal.loop-place-preserved
loop-place-preserved c =
    let places = c.args.places.now in
    let place = get_or places c.loop-place.place-index 0 in
    let within : place < length c.args.marks.now = c.requires c.loop-place.place-index 0 c.loop-place-test.true in
    let next = take-slice_get places c.loop-place.place-index place (slice_get-get_or places c.loop-place.place-index 0 c.loop-place-test.true) in
    subst (λ (front : List ℕ). Marks front c.args.marks.now (set c.loop-place.marks place true)) (sym next)
    (Marks-more (take c.loop-place.place-index places) c.args.marks.now c.loop-place.marks place (omega (arith, within, c.loop-place.auto.marks)) c.loop-place.invariant)

pub returns : goal.returns
returns c = subst (λ (places : List ℕ). Marks places c.args.marks.now c.loop-place.marks) (take_all c.loop-place.place-index c.args.places.now c.loop-place-test.false) c.loop-place.invariant
