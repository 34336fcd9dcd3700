use Rattle.std.proofs.Common.{◌≡◌, ◌-◌, drop, length}
use Rattle.std.specs.List.{list_any}
use Rattle.smt_patterns.specs.Patterns.{is_variable, occurs}
use Rattle.smt_patterns.proofs.triggers.has_variable.Given as goal

-- the variable occurs where it occurs in the rows that are left
abbrev pub invariant-loop-i : goal.invariant-loop-i
invariant-loop-i l = list_any (is_variable l.index) (drop l.i l.trigger.rows) ≡ occurs l.trigger l.index

abbrev pub decreases-loop-i : goal.decreases-loop-i
decreases-loop-i l = length l.trigger.rows - l.i
