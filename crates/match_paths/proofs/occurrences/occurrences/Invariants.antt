use Rattle.match_paths.proofs.OccurrenceLemmas.{Opened}
use Rattle.match_paths.proofs.occurrences.occurrences.Given as goal

abbrev pub invariant-loop-turn : goal.invariant-loop-turn
invariant-loop-turn l = Opened l.trigger l.turn l.all.items
