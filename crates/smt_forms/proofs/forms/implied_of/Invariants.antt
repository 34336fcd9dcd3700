use Rattle.std.proofs.Common.{length, ◌-◌, ◌≡◌, ◌≤◌, ◌++◌, drop}
use Rattle.smt_forms.specs.Nodes.{implied}
use Rattle.smt_forms.proofs.forms.implied_of.Given as goal

-- the numbers so far, and those of the parts that are left, are those of all
abbrev pub invariant-loop-i : goal.invariant-loop-i
invariant-loop-i l = (l.i ≤ length l.parts) × (l.numbers.items ++ implied (drop l.i l.parts) ≡ implied l.parts)

abbrev pub decreases-loop-i : goal.decreases-loop-i
decreases-loop-i l = length l.parts - l.i
