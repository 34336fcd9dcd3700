use Rattle.std.proofs.Common.{List, subst}
use Rattle.formula_truth.specs.declared.truth.Truth.{Truth}
use Rattle.formula_value.specs.ByParts.{IsNodeValue}
use Rattle.formula_value.specs.Value.{known_with}
use Rattle.formula_value.proofs.ByPartsLemmas.{next_first_values}
use Rattle.formula_value.proofs.evaluate.first_values.Goals as goal

pub loop-n-preserved : goal.loop-n-preserved
loop-n-preserved g c =
    let standing = g.G.ClassGraph.standing c.args.graph.now in
    let facts = c.args.facts.now in
    next_first_values c.joining_law.ensures standing facts c.args.table.now.nodes c.loop-n.n c.loop-n.values.items
    c.push_value.new.values.items c.node.result.now c.node_value-value.result c.loop-n.invariant c.node.ensures
    (c.len-lawful.ensures.table.earlier c.loop-n.n c.node.result.now c.node.ensures)
    (subst (λ (values : List Truth). IsNodeValue (known_with standing facts) facts.live values c.node.result.now
    c.node_value-value.result) c.deref.ensures.value c.node_value-value.ensures)
    c.in_ok-push_value.ensures
