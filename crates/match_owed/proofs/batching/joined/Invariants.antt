use Rattle.std.proofs.Common.{◌≤◌, ◌-◌, length}
use Rattle.match_owed.proofs.BatchLemmas.{JoinsTo}
use Rattle.match_owed.proofs.batching.joined.Given as goal

abbrev pub invariant-loop-at : goal.invariant-loop-at
invariant-loop-at l = (l.at ≤ length l.asked) × JoinsTo l.forest l.asked l.at l.batch l.lists.items

abbrev pub decreases-loop-at : goal.decreases-loop-at
decreases-loop-at l = length l.asked - l.at
