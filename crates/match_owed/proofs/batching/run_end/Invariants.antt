use Rattle.std.proofs.Common.{◌-◌, length}
use Rattle.match_owed.proofs.BatchLemmas.{RunTo}
use Rattle.match_owed.proofs.batching.run_end.Given as goal

abbrev pub invariant-loop-first : goal.invariant-loop-first
invariant-loop-first l = RunTo l.asked l.at l.end l.first

abbrev pub decreases-loop-first : goal.decreases-loop-first
decreases-loop-first l = length l.asked - l.end
