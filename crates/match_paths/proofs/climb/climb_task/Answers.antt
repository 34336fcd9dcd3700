use Rattle.std.proofs.Common.{◌<◌, length, refl}
use Rattle.std.proofs.lemmas.List.Elements.{All-get_or}
use Rattle.match_paths.proofs.TurnLemmas.{by_none, by_next, by_all}
use Rattle.match_paths.proofs.climb.climb_task.Goals as goal

pub climb_next-requires-clause-node : goal.climb_next-requires-clause-node
climb_next-requires-clause-node g c = All-get_or (λ node. node < length c.args.nodes.now.labels) c.nexts-node-items.result.now c.loop-node.node-index 0 c.loop-node-test.true c.nexts-node-items.ensures.within

pub loop-node-init : goal.loop-node-init
loop-node-init g c = by_none (g.G.ClassGraph.standing c.args.graph.now) c.args.entries.now c.args.nodes.now c.args.task.class c.nexts-node-items.result.now c.args.tasks.now c.args.claims.now

pub loop-node-preserved : goal.loop-node-preserved
loop-node-preserved g c =
    by_next (g.G.ClassGraph.standing c.args.graph.now) c.args.entries.now c.args.nodes.now c.args.task.class c.nexts-node-items.result.now c.loop-node.node-index c.args.tasks.now c.loop-node.tasks c.climb_next.new.tasks c.args.claims.now c.loop-node.claims c.climb_next.new.claims c.loop-node.invariant c.in_ok-climb_next.ensures

pub returns : goal.returns
returns g c =
    by_all (g.G.ClassGraph.standing c.args.graph.now) c.args.entries.now c.args.nodes.now c.args.task.class c.nexts-node-items.result.now c.args.task refl c.loop-node.node-index c.args.tasks.now c.loop-node.tasks c.args.claims.now c.loop-node.claims c.nexts-node-items.ensures.exact c.loop-node.auto.node-index-end c.loop-node-test.false c.loop-node.invariant
