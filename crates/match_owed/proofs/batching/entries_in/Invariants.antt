use Rattle.match_owed.proofs.BatchLemmas.{EntriesTo}
use Rattle.match_owed.proofs.batching.entries_in.Given as goal

abbrev pub invariant-loop-i : goal.invariant-loop-i
invariant-loop-i l = EntriesTo l.asked l.at l.i l.entries.items
