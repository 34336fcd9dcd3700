use Rattle.std.proofs.Common.{[], subst}
use Rattle.graph_meaning.specs.State.{GraphState}
use Rattle.search_watch.specs.Service.{Serves, service}
use Rattle.search_branch.proofs.build.watch_of.Goals as goal

pub add_literals-requires-clause-serves : goal.add_literals-requires-clause-serves
add_literals-requires-clause-serves c =
    subst (λ (graph : GraphState). Serves (service graph.standing [] 0) c.in_ok-watch.watch) c.graph-graph.ensures
    (c.in_ok-watch.ensures 0)
