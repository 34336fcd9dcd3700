use Rattle.std.proofs.Common.{length, ◌-◌, ◌≡◌, ◌≤◌, [], drop}
use Rattle.smt_forms.specs.Moved.{moved_nodes}
use Rattle.smt_forms.proofs.moved.put_moved_nodes.Given as goal

-- what is made of the nodes that are left is what is made of all
abbrev pub invariant-loop-i : goal.invariant-loop-i
invariant-loop-i l = (l.i ≤ length l.source.nodes) × (moved_nodes l.rows l.nodes.items l.at (drop l.i l.source.nodes) l.draft ≡ moved_nodes l.rows [] l.at l.source.nodes l.fn.draft)

abbrev pub decreases-loop-i : goal.decreases-loop-i
decreases-loop-i l = length l.source.nodes - l.i
