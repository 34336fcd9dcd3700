use Rattle.std.proofs.Common.{length, ◌-◌, ◌≡◌, ◌≤◌, drop}
use Rattle.smt_forms.specs.Nodes.{distinct_from}
use Rattle.smt_forms.proofs.Lists.{behind}
use Rattle.smt_forms.proofs.chains.put_distinct_from.Given as goal

-- the differences so far, and those of the parts that are left, are those of all
abbrev pub invariant-loop-i : goal.invariant-loop-i
invariant-loop-i l = (l.i ≤ length l.parts) × (behind l.differences.items (distinct_from l.at l.first (drop l.i l.parts)) l.draft ≡ distinct_from l.at l.first l.parts l.fn.draft)

abbrev pub decreases-loop-i : goal.decreases-loop-i
decreases-loop-i l = length l.parts - l.i
