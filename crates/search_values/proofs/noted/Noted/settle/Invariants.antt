use Rattle.std.proofs.Common.{◌<◌, length, All}
use Rattle.search_values.specs.History.{now, KeepsHistory}
use Rattle.search_values.specs.Settled.{AreWires, IsSettledBut, WaitsIn, Tells, weight}
use Rattle.search_values.proofs.noted.Noted.settle.Given as goal

abbrev pub invariant-loop-n : goal.invariant-loop-n
invariant-loop-n l = record {
  wires : AreWires l.wiring (now l.self);
  settled : IsSettledBut (WaitsIn l.wiring l.work.items) l.wiring (now l.self);
  work : All (λ m. m < length l.wiring.parts) l.work.items;
  tells : Tells (now l.fn.self) (now l.self);
  history : KeepsHistory l.fn.self l.self;
}

abbrev pub decreases-loop-n : goal.decreases-loop-n
decreases-loop-n l = weight (now l.self) l.work.items
