use Rattle.std.proofs.Common.{◌≡◌}
use Rattle.graph_meaning.specs.State.{GraphState}
use Rattle.formula_assert.specs.InLevel.{GrowsGraph}
use Rattle.formula_assert.proofs.take_back.take_back_to.Given as goal

-- what led from a state with the number to the graph at first leads from it to the graph, as far as it is not taken back
abbrev pub invariant-back : goal.invariant-back
invariant-back l = (before : GraphState) → before.done ≡ l.version → GrowsGraph before l.fn.graph → GrowsGraph before l.graph

-- how many operations count as done
abbrev pub decreases-back : goal.decreases-back
decreases-back l = l.graph.done
