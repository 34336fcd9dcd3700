use Rattle.std.proofs.Common.{take}
use Rattle.search_values.specs.Entered.{ArePlaces, NoneStruck}
use Rattle.search_values.proofs.entering.told_places.Given as goal

abbrev pub invariant-loop-i : goal.invariant-loop-i
invariant-loop-i l = record { told : ArePlaces l.board (take l.i l.parts) l.places; none_struck : NoneStruck l.places }
