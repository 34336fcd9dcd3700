use Rattle.std.proofs.Common.{length, ◌-◌, ◌≡◌, ◌≤◌, drop}
use Rattle.formula_draft.specs.Draft.{Draft}
use Rattle.smt_forms.specs.Applied.{right_complements}
use Rattle.smt_forms.proofs.checks.check_complements.Given as goal

-- what the check of those that are left answers is what the whole check answers
abbrev pub invariant-loop-k : goal.invariant-loop-k
invariant-loop-k l = (l.k ≤ length l.args)
    × ((draft : Draft) → right_complements l.connective l.k (length l.args) l.sort (drop l.k l.args) draft
    ≡ right_complements l.connective 0 (length l.args) l.sort l.args draft)

abbrev pub decreases-loop-k : goal.decreases-loop-k
decreases-loop-k l = length l.args - l.k
