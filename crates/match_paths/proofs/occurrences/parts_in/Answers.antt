use Rattle.std.proofs.Common.{◌+◌, sym, subst, arith}
use Rattle.match_paths.proofs.OccurrenceLemmas.{CollectedTo, IsPartAt, part_next, parts_all}
use Rattle.match_paths.proofs.occurrences.parts_in.Goals as goal

pub loop-place-preserved : goal.loop-place-preserved
loop-place-preserved c =
    subst (CollectedTo (IsPartAt c.args.above.now c.args.symbol c.args.args.now) (c.loop-place.place + 1)) (sym c.in_ok-push.ensures.items)
    (part_next c.args.above.now c.args.symbol c.args.args.now c.loop-place.place c.get.result c.in_ok-part.part c.loop-place.parts.items c.get.ensures.value c.in_ok-part.ensures c.loop-place.invariant)

pub returns : goal.returns
returns c = parts_all c.args.above.now c.args.symbol c.args.args.now c.loop-place.place c.loop-place.parts.items (omega (arith, c.loop-place-test.false, c.len-place-end.ensures)) c.loop-place.invariant
