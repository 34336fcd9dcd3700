use Rattle.std.proofs.Common.{◌≡◌, take}
use Rattle.graph_trigger.proofs.pattern_rows.PatternRows.copy.Given as goal

abbrev pub invariant-loop-i : goal.invariant-loop-i
invariant-loop-i l = l.rows ≡ take l.i l.self
