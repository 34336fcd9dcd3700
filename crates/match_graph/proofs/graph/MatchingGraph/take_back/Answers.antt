use Rattle.std.proofs.Common.{◌≡◌, ◌-◌, length, take, ap, sym, subst, ◌∙◌, arith}
use Rattle.graph_meaning.specs.Standing.{triggers_of}
use Rattle.graph_meaning.specs.State.{GraphState}
use Rattle.match_forest.specs.Forest.{Serves}
use Rattle.match_graph.proofs.StepLemmas.{triggers_front, few_front}
use Rattle.match_graph.proofs.graph.MatchingGraph.take_back.Goals as goal

pub cut-requires : goal.cut-requires
cut-requires c =
    let old = c.self.inside.graph in
    let left = ap (λ (g : GraphState). length (triggers_of g.standing)) c.take_back.ensures.gives in
    omega (arith, c.triggers.ensures, left, few_front (length old.standing - 1) old.standing, c.self.invariant.many)

pub invariant_of-self : goal.invariant_of-self
invariant_of-self c =
    let old = c.self.inside.graph in
    let is = ap (λ (g : GraphState). triggers_of g.standing) c.take_back.ensures.gives in
    let left : take c.triggers.result (triggers_of old.standing) ≡ triggers_of c.take_back.new.self.standing =
    ap (λ n. take n (triggers_of old.standing)) (c.triggers.ensures ∙ ap length is) ∙ triggers_front (length old.standing - 1) old.standing ∙ sym is in
    subst (Serves c.cut.new.self) left (c.cut.ensures.serves (triggers_of old.standing) c.self.invariant)
