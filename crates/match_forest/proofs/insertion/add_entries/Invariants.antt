use Rattle.match_forest.specs.ForestInside.{Enters}
use Rattle.match_forest.proofs.insertion.add_entries.Given as goal

abbrev pub invariant-loop-start : goal.invariant-loop-start
invariant-loop-start l = Enters l.fn.nodes l.nodes l.fn.entries l.entries l.trigger l.number l.start
