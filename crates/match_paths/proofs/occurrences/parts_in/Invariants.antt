use Rattle.match_paths.proofs.OccurrenceLemmas.{CollectedTo, IsPartAt}
use Rattle.match_paths.proofs.occurrences.parts_in.Given as goal

abbrev pub invariant-loop-place : goal.invariant-loop-place
invariant-loop-place l = CollectedTo (IsPartAt l.above l.symbol l.args) l.place l.parts.items
