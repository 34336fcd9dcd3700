use Rattle.std.proofs.Common.{◌≡◌, ◌≤◌, ◌-◌}
use Rattle.smt_terms.specs.Reading.{from}
use Rattle.smt_terms.specs.Cursor.{trees_from}
use Rattle.smt_terms.proofs.cursor.behind_some.Given as goal

-- so many trees were passed
abbrev pub invariant-loop-passed : goal.invariant-loop-passed
invariant-loop-passed l = record { in_range : l.passed ≤ l.count; stands : trees_from l.tree l.at ≡ from l.passed (trees_from l.tree l.i) }

abbrev pub decreases-loop-passed : goal.decreases-loop-passed
decreases-loop-passed l = l.count - l.passed
