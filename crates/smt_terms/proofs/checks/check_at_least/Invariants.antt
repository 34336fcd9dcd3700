use Rattle.std.proofs.Common.{◌≡◌}
use Rattle.smt_terms.specs.Reading.{at_least}
use Rattle.smt_terms.specs.Cursor.{trees_from}
use Rattle.smt_terms.proofs.checks.check_at_least.Given as goal

-- what is left to check is the whole
abbrev pub invariant-loop-left : goal.invariant-loop-left
invariant-loop-left l = at_least l.left l.missing (trees_from l.tree l.at) ≡ at_least l.count l.missing (trees_from l.tree l.i)

abbrev pub decreases-loop-left : goal.decreases-loop-left
decreases-loop-left l = l.left
