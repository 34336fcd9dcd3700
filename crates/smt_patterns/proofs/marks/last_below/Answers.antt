use Rattle.std.proofs.Common.{◌-◌, get_or, refl, arith}
use Rattle.smt_patterns.proofs.ReachLemmas.{last_some}
use Rattle.smt_patterns.proofs.marks.last_below.Goals as goal

pub returns : goal.returns
returns c marks rows within are =
    last_some rows c.args.bound c.count_below-i.result (get_or c.args.places.now (c.count_below-i.result - 1) 0) marks c.args.places.now within are
    (c.count_below-i.ensures.is marks rows within are) (omega (arith, c.if-i-eq0.false)) refl
