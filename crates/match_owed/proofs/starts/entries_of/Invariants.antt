use Rattle.std.proofs.Common.{◌≤◌, length}
use Rattle.match_owed.proofs.StartLemmas.{ArePast}
use Rattle.match_owed.proofs.starts.entries_of.Given as goal

abbrev pub invariant-loop-count : goal.invariant-loop-count
invariant-loop-count l = (l.count ≤ length l.entries.entries) × ArePast l.entries l.triggers l.count

abbrev pub decreases-loop-count : goal.decreases-loop-count
decreases-loop-count l = l.count
