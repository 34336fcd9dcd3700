use Rattle.std.proofs.Common.{◌≡◌, ◌-◌, ◌≤◌, length, take}
use Rattle.search_values.proofs.wiring.Wiring.cut.Given as goal

abbrev pub invariant-loop-gone : goal.invariant-loop-gone
invariant-loop-gone l = (l.self.parts ≡ take (length l.fn.self.parts - (l._gone - l.count)) l.fn.self.parts) × (l._gone - l.count ≤ length l.fn.self.parts - l.count)
