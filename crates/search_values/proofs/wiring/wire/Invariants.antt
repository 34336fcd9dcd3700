use Rattle.std.proofs.Common.{length}
use Rattle.search_values.specs.WiresUps.{WiresUps, ups_in}
use Rattle.search_values.proofs.wiring.wire.Given as goal

abbrev pub invariant-loop-i : goal.invariant-loop-i
invariant-loop-i l = WiresUps (ups_in l.fn.ups.items) (length l.fn.ups.items) l.ups.items l.parts l.n l.i
