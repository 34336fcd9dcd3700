use Rattle.std.proofs.Common.{◌<◌, List, length, sym, subst}
use Rattle.match_paths.specs.declared.task.Task.{Task}
use Rattle.std.proofs.lemmas.List.Elements.{All-get_or}
use Rattle.match_paths.proofs.TurnLemmas.{FirstTo, first_none, first_next, first_all}
use Rattle.match_paths.proofs.climb.first_tasks.Goals as goal

pub put_root-requires-clause-root : goal.put_root-requires-clause-root
put_root-requires-clause-root g c = All-get_or (λ node. node < length c.args.nodes.now.labels) c.nexts-root-items.result.now c.loop-root.root-index 0 c.loop-root-test.true c.nexts-root-items.ensures.within

pub loop-root-init : goal.loop-root-init
loop-root-init g c =
    let standing = g.G.ClassGraph.standing c.args.graph.now in
    subst (λ (ts : List Task). FirstTo standing c.args.nodes.now c.args.class c.nexts-root-items.result.now 0 ts) (sym c.new-tasks.ensures) (first_none standing c.args.nodes.now c.args.class c.nexts-root-items.result.now c.nexts-root-items.ensures.exact)

pub loop-root-preserved : goal.loop-root-preserved
loop-root-preserved g c = first_next (g.G.ClassGraph.standing c.args.graph.now) c.args.nodes.now c.args.class c.nexts-root-items.result.now c.nexts-root-items.ensures.exact c.loop-root.root-index c.loop-root.tasks c.put_root.new.tasks c.loop-root-test.true c.in_ok-put_root.ensures c.loop-root.invariant

pub returns : goal.returns
returns g c = first_all (g.G.ClassGraph.standing c.args.graph.now) c.args.nodes.now c.args.class c.nexts-root-items.result.now c.nexts-root-items.ensures.exact c.loop-root.root-index c.loop-root.tasks c.loop-root-test.false c.loop-root.invariant
