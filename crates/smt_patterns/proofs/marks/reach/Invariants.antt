use Rattle.smt_patterns.proofs.ReachLemmas.{Passed}
use Rattle.smt_patterns.proofs.marks.reach.Given as goal

-- the rows from here on were passed
abbrev pub invariant-loop-n : goal.invariant-loop-n
invariant-loop-n l = Passed l.draft.rows l.roots l.places.items l.left

abbrev pub decreases-loop-n : goal.decreases-loop-n
decreases-loop-n l = l.left
