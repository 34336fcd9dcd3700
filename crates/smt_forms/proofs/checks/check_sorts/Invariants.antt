use Rattle.std.proofs.Common.{length, ◌-◌, ◌≡◌, ◌≤◌, drop}
use Rattle.formula_draft.specs.Draft.{Draft}
use Rattle.smt_forms.specs.Applied.{right_sorts}
use Rattle.smt_forms.proofs.checks.check_sorts.Given as goal

-- what the check of those that are left answers is what the whole check answers
abbrev pub invariant-loop-i : goal.invariant-loop-i
invariant-loop-i l = (l.i ≤ length l.args)
    × ((draft : Draft) → right_sorts (drop l.i l.wanted) (drop l.i l.args) draft ≡ right_sorts l.wanted l.args draft)

abbrev pub decreases-loop-i : goal.decreases-loop-i
decreases-loop-i l = length l.args - l.i
