use Rattle.std.proofs.Common.{◌≤◌, ◌<◌, length, All}
use Rattle.search_values.specs.History.{now, KeepsHistory}
use Rattle.search_values.specs.Settled.{AreWires, IsSettledBut, Waits, Tells, weight}
use Rattle.search_values.proofs.noted.Noted.tell.Given as goal

abbrev pub invariant-loop-k : goal.invariant-loop-k
invariant-loop-k l = record {
  wires : AreWires l.wiring (now l.self);
  settled : IsSettledBut (Waits l.wiring l.work.items l.n l.k) l.wiring (now l.self);
  work : All (λ m. m < length l.wiring.parts) l.work.items;
  tells : Tells (now l.fn.self) (now l.self);
  weighs : weight (now l.self) l.work.items ≤ weight (now l.fn.self) l.fn.work.items;
  history : KeepsHistory l.fn.self l.self;
}
