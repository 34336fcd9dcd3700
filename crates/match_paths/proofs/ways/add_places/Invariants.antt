use Rattle.match_paths.specs.Wants.{AddsWays}
use Rattle.match_paths.proofs.PairLemmas.{ByPlaces}
use Rattle.match_paths.proofs.ways.add_places.Given as goal

abbrev pub invariant-loop-i : goal.invariant-loop-i
invariant-loop-i l = AddsWays l.number (ByPlaces l.trigger l.all l.i) l.fn.nodes l.nodes l.fn.entries l.entries
