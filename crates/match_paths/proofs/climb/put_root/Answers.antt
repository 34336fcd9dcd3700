use Rattle.match_paths.proofs.TurnLemmas.{puts_root}
use Rattle.match_paths.proofs.climb.put_root.Goals as goal

pub returns-in_ok-put : goal.returns-in_ok-put
returns-in_ok-put g c = puts_root (g.G.ClassGraph.standing c.args.graph.now) c.args.nodes.now c.args.class c.args.root c.label.result.now c.args.tasks.now c.put.new.self c.label.ensures (c.begins.ensures.0 c.if-begins.true) c.in_ok-put.ensures
