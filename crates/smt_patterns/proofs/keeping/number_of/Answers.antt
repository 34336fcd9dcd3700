use Rattle.std.proofs.Common.{arith}
use Rattle.smt_patterns.proofs.KeepLemmas.{number_found, number_none}
use Rattle.smt_patterns.proofs.keeping.number_of.Goals as goal
use Rattle.smt_patterns.proofs.keeping.number_of.Goals.{then-i-places-via-then-i-places, then-i-places-via-else-i-places+then-places-i}

pub returns-then-i-places : goal.returns-then-i-places
returns-then-i-places c marks rows are = number_none rows c.args.place c.count_below-i.result marks c.args.places.now are
    (λ below. c.count_below-i.ensures.is marks rows below are)
    (elim c.then-i-places.branch [
      | then-i-places-via-then-i-places w ↦ λ within is. absurd (omega (arith, within, w.if-i-places.true))
      | then-i-places-via-else-i-places+then-places-i w ↦ λ within is. w.if-places-i.true is
    ])

pub returns : goal.returns
returns c marks rows are = number_found rows c.args.place c.count_below-i.result marks c.args.places.now are
    (λ below. c.count_below-i.ensures.is marks rows below are) c.if-i-places.false c.if-places-i.false
