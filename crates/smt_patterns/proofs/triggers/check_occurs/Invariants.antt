use Rattle.std.proofs.Common.{◌≡◌, ◌-◌, drop, length}
use Rattle.formula_draft.specs.Draft.{Draft}
use Rattle.smt_patterns.specs.Triggers.{each_occurs}
use Rattle.smt_patterns.proofs.triggers.check_occurs.Given as goal

-- what is left to check is the whole
abbrev pub invariant-loop-i : goal.invariant-loop-i
invariant-loop-i l = (draft : Draft) → each_occurs l.at l.trigger l.i (drop l.i l.variables) draft ≡ each_occurs l.at l.trigger 0 l.variables draft

abbrev pub decreases-loop-i : goal.decreases-loop-i
decreases-loop-i l = length l.variables - l.i
