use Rattle.std.proofs.Common.{◌<◌, length}
use Rattle.std.proofs.lemmas.List.Elements.{All-get_or}
use Rattle.match_trees.proofs.NodeLemmas.{none_in}
use Rattle.match_trees.proofs.node_table.NodeTable.next_with.Goals as goal

pub label-requires : goal.label-requires
label-requires g c = All-get_or (λ node. node < length c.args.self.now.labels) c.nexts-nexts.result.now c.loop-node.node-index 0 c.loop-node-test.true c.nexts-nexts.ensures.within

pub returns-clause-none : goal.returns-clause-none
returns-clause-none g c = none_in c.args.self.now c.args.at c.args.label.now c.nexts-nexts.result.now c.loop-node.node-index c.nexts-nexts.ensures.exact c.loop-node-test.false c.loop-node.invariant
