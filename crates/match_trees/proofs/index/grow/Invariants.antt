use Rattle.match_trees.specs.Index.{GrewEmpty}
use Rattle.match_trees.proofs.index.grow.Given as goal

abbrev pub invariant-loop-turn : goal.invariant-loop-turn
invariant-loop-turn l = GrewEmpty l.fn.lists.items l.lists.items
