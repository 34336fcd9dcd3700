use Rattle.std.proofs.Common.{◌≡◌, ap, sym, subst, ◌∙◌}
use Rattle.graph_meaning.specs.Standing.{triggers_of}
use Rattle.graph_meaning.specs.State.{GraphState}
use Rattle.match_forest.specs.Forest.{Serves}
use Rattle.match_graph.proofs.StepLemmas.{triggers_kept}
use Rattle.match_graph.proofs.graph.MatchingGraph.try_op.Goals as goal

pub invariant_of-self : goal.invariant_of-self
invariant_of-self c =
    let old = c.self.inside.graph in
    let kept : triggers_of c.apply.new.self.standing ≡ triggers_of old.standing = ap (λ (g : GraphState). triggers_of g.standing) c.in_ok-apply-in_default.ensures.ok ∙ triggers_kept old.standing old.done c.args.op.now c.in_default.not-Live c.in_default.not-Pop in
    subst (Serves c.self.inside.forest) (sym kept) c.self.invariant
