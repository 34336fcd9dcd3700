use Rattle.std.proofs.Common.{sym, subst}
use Rattle.match_forest.specs.Forest.{Serves}
use Rattle.match_graph.proofs.StepLemmas.{triggers_merged}
use Rattle.match_graph.proofs.graph.MatchingGraph.merge.Goals as goal

pub invariant_of-self : goal.invariant_of-self
invariant_of-self c =
    subst (Serves c.self.inside.forest)
    (sym (triggers_merged c.self.inside.graph c.merge.new.self c.args.left c.args.right c.merge.result c.merge.ensures.ok c.merge.ensures.err))
    c.self.invariant
