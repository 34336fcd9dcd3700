use Rattle.match_owed.proofs.BatchLemmas.{AskFirst}
use Rattle.match_owed.proofs.batching.asked_for_each.Given as goal

abbrev pub invariant-loop-i : goal.invariant-loop-i
invariant-loop-i l = AskFirst l.forest l.claims l.i l.asked.items
