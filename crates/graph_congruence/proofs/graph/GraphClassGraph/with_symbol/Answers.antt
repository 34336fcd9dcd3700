use Rattle.std.proofs.Common.{ap, ◌∙◌, length, subst}
use Rattle.graph_meaning.specs.Questions.{IsNth, HasSymbol}
use Rattle.graph_meaning.specs.Standing.{terms_of}
use Rattle.graph_meaning.specs.State.{GraphState}
use Rattle.graph_classes.specs.History.{now}
use Rattle.graph_congruence.proofs.QuestionLemmas.{with_symbol_is}
use Rattle.graph_congruence.proofs.graph.GraphClassGraph.with_symbol.Goals as goal

pub returns : goal.returns
returns c =
    let s = now c.self.inside.classes in
    let good = c.self.invariant.starts.good in
    let terms = ap length good.terms ∙ ap (λ (g : GraphState). length (terms_of g.standing)) c.self.view_is in
    let P : GraphState → Type 0 = λ g. IsNth (HasSymbol g.standing c.args.symbol) c.args.k c.get.result in
    subst P c.self.view_is (with_symbol_is s good c.args.symbol c.args.k c.get.result c.get.ensures.value c.get.ensures.rising)
