use Rattle.std.proofs.Common.{◌≡◌, length, take, ap, sym, subst, ◌∙◌, arith}
use Rattle.graph_meaning.specs.Standing.{triggers_of}
use Rattle.graph_meaning.specs.State.{GraphState}
use Rattle.match_forest.specs.Forest.{Serves}
use Rattle.match_graph.proofs.StepLemmas.{triggers_popped, few_popped}
use Rattle.match_graph.proofs.graph.MatchingGraph.pop.Goals as goal

pub cut-requires : goal.cut-requires
cut-requires c =
    let old = c.self.inside.graph in
    let popped = ap (λ (g : GraphState). length (triggers_of g.standing)) c.pop.ensures in
    omega (arith, c.triggers.ensures, popped, few_popped old.standing, c.self.invariant.many)

pub invariant_of-self : goal.invariant_of-self
invariant_of-self c =
    let old = c.self.inside.graph in
    let popped = ap (λ (g : GraphState). triggers_of g.standing) c.pop.ensures in
    let left : take c.triggers.result (triggers_of old.standing) ≡ triggers_of c.pop.new.self.standing =
    ap (λ n. take n (triggers_of old.standing)) (c.triggers.ensures ∙ ap length popped) ∙ triggers_popped old.standing ∙ sym popped in
    subst (Serves c.cut.new.self) left (c.cut.ensures.serves (triggers_of old.standing) c.self.invariant)
