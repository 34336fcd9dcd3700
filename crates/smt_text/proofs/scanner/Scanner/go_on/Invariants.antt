use Rattle.std.proofs.Common.{length, ◌-◌}
use Rattle.smt_text.specs.Scanner.{HasRead}
use Rattle.smt_text.proofs.scanner.Scanner.go_on.Given as goal

abbrev pub invariant-loop-self : goal.invariant-loop-self
invariant-loop-self l = HasRead l.bytes l.self

abbrev pub decreases-loop-self : goal.decreases-loop-self
decreases-loop-self l = length l.bytes - l.self.seen
