use Rattle.std.proofs.Common.{◌<◌, ap, ◌∙◌, length, subst}
use Rattle.graph_meaning.specs.Questions.{IsNth, IsParent}
use Rattle.graph_meaning.specs.Standing.{terms_of}
use Rattle.graph_meaning.specs.State.{GraphState}
use Rattle.graph_classes.specs.History.{now}
use Rattle.graph_congruence.proofs.QuestionLemmas.{parent_is}
use Rattle.graph_congruence.proofs.graph.GraphClassGraph.parent.Goals as goal

pub returns : goal.returns
returns c =
    let s = now c.self.inside.classes in
    let good = c.self.invariant.starts.good in
    let terms = ap length good.terms ∙ ap (λ (g : GraphState). length (terms_of g.standing)) c.self.view_is in
    let within : c.args.term < length s.rows = rw terms c.requires in
    let P : GraphState → Type 0 = λ g. IsNth (IsParent g.standing c.args.term c.args.symbol c.args.place) c.args.k c.get.result in
    subst P c.self.view_is (parent_is s good c.args.term c.index-label.result.now within c.index-label.ensures c.args.symbol c.args.place c.args.k c.get.result c.get.ensures.value c.get.ensures.rising)
