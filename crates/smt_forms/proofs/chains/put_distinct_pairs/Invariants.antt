use Rattle.std.proofs.Common.{length, ◌-◌, ◌≡◌, ◌≤◌, drop}
use Rattle.smt_forms.specs.Nodes.{distinct_pairs}
use Rattle.smt_forms.proofs.Lists.{behind}
use Rattle.smt_forms.proofs.chains.put_distinct_pairs.Given as goal

-- the differences so far, and those of the parts that are left, are those of all
abbrev pub invariant-loop-i : goal.invariant-loop-i
invariant-loop-i l = (l.i ≤ length l.parts) × (behind l.differences.items (distinct_pairs l.at (drop l.i l.parts)) l.draft ≡ distinct_pairs l.at l.parts l.fn.draft)

abbrev pub decreases-loop-i : goal.decreases-loop-i
decreases-loop-i l = length l.parts - l.i
