use Rattle.std.proofs.Common.{◌≡◌, ◌++◌, [], ◌∷◌, ap, sym, subst, ◌∙◌}
use Rattle.graph_meaning.specs.declared.op.Op.TheVariants.{Live}
use Rattle.graph_meaning.proofs.LawfulLaws.{triggers_of-push}
use Rattle.graph_meaning.specs.Standing.{triggers_of}
use Rattle.graph_meaning.specs.State.{GraphState}
use Rattle.match_forest.specs.Forest.{Serves}
use Rattle.match_graph.proofs.graph.MatchingGraph.live.Goals as goal

pub invariant_of-self-in-Ok : goal.invariant_of-self-in-Ok
invariant_of-self-in-Ok c =
    let old = c.self.inside.graph in
    let trigger = c.args.trigger.now in
    let grown : triggers_of c.live.new.self.standing ≡ triggers_of old.standing ++ trigger ∷ [] = ap (λ (g : GraphState). triggers_of g.standing) c.in-Ok.ensures.ok ∙ triggers_of-push old.standing old.done (Live trigger) in
    subst (Serves c.insert.new.self) (sym grown) (c.in_ok-insert.ensures.serves (triggers_of old.standing) c.self.invariant)
