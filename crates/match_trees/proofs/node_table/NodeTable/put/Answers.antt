use Rattle.std.proofs.Common.{◌∙◌, ap}
use Rattle.match_trees.specs.Trees.{with_node}
use Rattle.match_trees.proofs.NodeLemmas.{puts_old, puts_new}
use Rattle.match_trees.proofs.node_table.NodeTable.put.Goals as goal

pub returns-in-Some-clause-ok : goal.returns-in-Some-clause-ok
returns-in-Some-clause-ok g c = puts_old c.args.self.now c.args.at c.args.label.now c.in-Some.there c.len-node.ensures.trees c.in-Some.ensures.place c.in-Some.ensures.has

pub returns-clause-ok : goal.returns-clause-ok
returns-clause-ok g c = puts_new c.args.self.now c.push.new.self c.args.at c.args.label.now c.len-node.result c.len-node.ensures.trees (c.in_ok-push.ensures.ok ∙ ap (λ (i : g.row.L.Denot). with_node c.args.self.now c.args.at i) c.in_ok-label.ensures) c.len-node.ensures.value
