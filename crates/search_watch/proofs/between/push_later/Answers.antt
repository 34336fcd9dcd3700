use Rattle.std.proofs.Common.{◌∷◌, [], arith}
use Rattle.search_watch.proofs.WatchLemmas.{gathers}
use Rattle.search_watch.proofs.BetweenLemmas.{later_more, pushed_below}
use Rattle.search_watch.proofs.between.push_later.Goals as goal

pub loop-d-init : goal.loop-d-init
loop-d-init c = record { gathers = λ item on. on; later = λ k le lt. absurd (omega arith); below = λ all. all }

pub loop-d-preserved : goal.loop-d-preserved
loop-d-preserved c = record {
  gathers = λ item on. gathers c.loop-d.found.items c.push.new.self.items (c.loop-d.d ∷ []) c.in_ok-push.ensures.items item (c.loop-d.invariant.gathers item on);
  later = later_more c.args.earlier c.loop-d.d c.loop-d.found.items c.push.new.self.items c.in_ok-push.ensures.items c.loop-d.invariant.later;
  below = λ all. pushed_below c.args.count c.loop-d.d c.loop-d.found.items c.push.new.self.items c.in_ok-push.ensures.items (omega arith) (c.loop-d.invariant.below all);
}

pub returns-clause-gathers : goal.returns-clause-gathers
returns-clause-gathers c = c.loop-d.invariant.gathers

pub returns-clause-later : goal.returns-clause-later
returns-clause-later c = λ k le lt. c.loop-d.invariant.later k le (omega arith)

pub returns-clause-below : goal.returns-clause-below
returns-clause-below c = c.loop-d.invariant.below
