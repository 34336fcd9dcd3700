use Rattle.std.proofs.Common.{length, ap, arith}
use Rattle.graph_meaning.specs.Standing.{terms_of}
use Rattle.graph_meaning.specs.State.{GraphState}
use Rattle.graph_congruence.proofs.graph.Graph.limit.Goals as goal

pub returns-clause-within : goal.returns-clause-within
returns-clause-within c =
    let good = c.self.invariant.starts.good in
    omega (arith, good.within, ap length good.terms, ap (λ (g : GraphState). length (terms_of g.standing)) c.self.view_is, ap (λ (g : GraphState). g.limit) c.self.view_is)
