use Rattle.std.proofs.Common.{length, ◌-◌, ◌≡◌, ◌≤◌, drop}
use Rattle.smt_forms.specs.Nodes.{xor_from}
use Rattle.smt_forms.proofs.chains.put_xor_from.Given as goal

-- what is made of the parts that are left is what is made of all
abbrev pub invariant-loop-i : goal.invariant-loop-i
invariant-loop-i l = (l.i ≤ length l.parts) × (xor_from l.at l.so_far (drop l.i l.parts) l.draft ≡ xor_from l.at l.first l.parts l.fn.draft)

abbrev pub decreases-loop-i : goal.decreases-loop-i
decreases-loop-i l = length l.parts - l.i
