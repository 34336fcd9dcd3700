use Rattle.std.proofs.Common.{◌≡◌, ◌++◌}
use Rattle.smt_terms.specs.Terms.{patterns_in}
use Rattle.smt_terms.specs.Bodies.{attributes_at}
use Rattle.smt_terms.specs.Cursor.{trees_from}
use Rattle.smt_terms.specs.Machine.{weight}
use Rattle.smt_terms.proofs.bodies.gather.Given as goal

-- the keywords so far and those that are left are those of all
abbrev pub invariant-loop-patterns : goal.invariant-loop-patterns
invariant-loop-patterns l = attributes_at l.tree l.patterns.items ++ patterns_in (trees_from l.tree l.at) ≡ attributes_at l.tree l.fn.patterns.items ++ patterns_in (trees_from l.tree l.i)

abbrev pub decreases-loop-patterns : goal.decreases-loop-patterns
decreases-loop-patterns l = weight l.tree (trees_from l.tree l.at)
