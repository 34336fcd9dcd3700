use Rattle.match_paths.proofs.OccurrenceLemmas.{CollectedTo, IsRootAt}
use Rattle.match_paths.proofs.occurrences.roots_of.Given as goal

abbrev pub invariant-loop-start : goal.invariant-loop-start
invariant-loop-start l = CollectedTo (IsRootAt l.trigger) l.start l.all.items
