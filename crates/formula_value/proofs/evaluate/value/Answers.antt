use Rattle.std.proofs.Common.{◌+◌, arith}
use Rattle.formula_value.proofs.ByPartsLemmas.{value_there}
use Rattle.formula_value.proofs.evaluate.value.Goals as goal

pub returns : goal.returns
returns g c = value_there (g.G.ClassGraph.standing c.args.graph.now) c.args.facts.now c.args.table.now.nodes
    (c.args.n + 1) c.args.n c.in_ok-values.values.items c.index.result.now c.in_ok-values.ensures (omega arith)
    c.index.ensures
