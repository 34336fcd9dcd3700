use Rattle.std.proofs.Common.{◌<◌, ap, sym, ◌∙◌, length}
use Rattle.std.proofs.lemmas.Bool.{eqb-true, eq-eqb}
use Rattle.graph_meaning.specs.Standing.{terms_of}
use Rattle.graph_meaning.specs.State.{GraphState}
use Rattle.graph_classes.specs.History.{now}
use Rattle.graph_congruence.proofs.ReadLemmas.{read_is}
use Rattle.graph_congruence.proofs.MeaningLemmas.{same_of_label, label_of_same}
use Rattle.graph_congruence.proofs.graph.GraphClassGraph.same.Goals as goal

pub returns : goal.returns
returns c =
    let s = now c.self.inside.classes in
    let good = c.self.invariant.starts.good in
    let terms = ap length good.terms ∙ ap (λ (g : GraphState). length (terms_of g.standing)) c.self.view_is in
    let left_in : c.args.left < length s.rows = rw terms c.requires.left in
    let right_in : c.args.right < length s.rows = rw terms c.requires.right in
    let left_is = read_is s.labels c.args.left c.index.result.now (rw good.indexed.labels_len left_in) c.index.ensures in
    let right_is = read_is s.labels c.args.right c.index-2.result.now (rw good.indexed.labels_len right_in) c.index-2.ensures in
    rw (← c.self.view_is) (λ is. same_of_label s good c.args.left c.args.right (left_in, right_in, left_is ∙ eqb-true _ _ is ∙ sym right_is), λ same. eq-eqb _ _ (sym left_is ∙ (label_of_same s good c.args.left c.args.right same).2 ∙ right_is))
