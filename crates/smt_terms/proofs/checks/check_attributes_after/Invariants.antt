use Rattle.std.proofs.Common.{◌≡◌, false}
use Rattle.smt_terms.specs.Reading.{attributes_after}
use Rattle.smt_terms.specs.Cursor.{trees_from}
use Rattle.smt_terms.specs.Machine.{weight}
use Rattle.smt_terms.proofs.checks.check_attributes_after.Given as goal

-- what is left to check is the whole
abbrev pub invariant-loop-valued : goal.invariant-loop-valued
invariant-loop-valued l = attributes_after l.valued (trees_from l.tree l.at) ≡ attributes_after false (trees_from l.tree l.i)

abbrev pub decreases-loop-valued : goal.decreases-loop-valued
decreases-loop-valued l = weight l.tree (trees_from l.tree l.at)
