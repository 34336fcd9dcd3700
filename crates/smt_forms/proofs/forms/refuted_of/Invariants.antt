use Rattle.std.proofs.Common.{length, ◌-◌, ◌≡◌, ◌≤◌, ◌++◌, drop}
use Rattle.std.specs.Option.{option_map}
use Rattle.smt_forms.specs.Nodes.{refuted}
use Rattle.smt_forms.proofs.forms.refuted_of.Given as goal

-- the numbers so far, and those of the parts that are left, are those of all
abbrev pub invariant-loop-i : goal.invariant-loop-i
invariant-loop-i l = (l.i ≤ length l.parts) × (option_map (λ ns. l.numbers.items ++ ns) (refuted (drop l.i l.parts)) ≡ refuted l.parts)

abbrev pub decreases-loop-i : goal.decreases-loop-i
decreases-loop-i l = length l.parts - l.i
