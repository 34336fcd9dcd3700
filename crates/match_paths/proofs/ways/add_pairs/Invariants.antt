use Rattle.match_paths.specs.Wants.{AddsWays}
use Rattle.match_paths.proofs.PairLemmas.{ByPairs}
use Rattle.match_paths.proofs.ways.add_pairs.Given as goal

abbrev pub invariant-loop-j : goal.invariant-loop-j
invariant-loop-j l = AddsWays l.number (ByPairs l.all l.occurrence l.j) l.fn.nodes l.nodes l.fn.entries l.entries
