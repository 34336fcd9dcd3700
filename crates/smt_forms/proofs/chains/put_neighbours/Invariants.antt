use Rattle.std.proofs.Common.{length, ◌-◌, ◌≡◌, ◌≤◌, drop}
use Rattle.smt_forms.specs.Nodes.{neighbours}
use Rattle.smt_forms.proofs.Lists.{behind}
use Rattle.smt_forms.proofs.chains.put_neighbours.Given as goal

-- the equations so far, and those of the parts that are left, are those of all
abbrev pub invariant-loop-i : goal.invariant-loop-i
invariant-loop-i l = (l.i ≤ length l.parts) × (behind l.equations.items (neighbours l.at l.left (drop l.i l.parts)) l.draft ≡ neighbours l.at l.first l.parts l.fn.draft)

abbrev pub decreases-loop-i : goal.decreases-loop-i
decreases-loop-i l = length l.parts - l.i
