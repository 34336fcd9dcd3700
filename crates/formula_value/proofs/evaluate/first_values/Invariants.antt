use Rattle.formula_value.specs.Value.{AreFirstValues}
use Rattle.formula_value.proofs.evaluate.first_values.Given as goal

abbrev pub invariant-loop-n : goal.invariant-loop-n
invariant-loop-n g l =
    AreFirstValues (g.G.ClassGraph.standing l.graph) l.facts l.table.nodes l.n l.values.items
