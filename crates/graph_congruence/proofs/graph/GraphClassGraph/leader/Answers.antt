use Rattle.std.proofs.Common.{◌<◌, ap, ◌∙◌, length, subst}
use Rattle.graph_meaning.specs.Same.{IsLeader}
use Rattle.graph_meaning.specs.Standing.{terms_of}
use Rattle.graph_meaning.specs.State.{GraphState}
use Rattle.graph_classes.specs.History.{now}
use Rattle.graph_congruence.proofs.ReadLemmas.{read_is}
use Rattle.graph_congruence.proofs.ReadLemmas.{own_label}
use Rattle.graph_congruence.proofs.QuestionLemmas.{leader_is}
use Rattle.graph_congruence.proofs.graph.GraphClassGraph.leader.Goals as goal

pub returns : goal.returns
returns c =
    let s = now c.self.inside.classes in
    let good = c.self.invariant.starts.good in
    let terms = ap length good.terms ∙ ap (λ (g : GraphState). length (terms_of g.standing)) c.self.view_is in
    let within : c.args.term < length s.rows = rw terms c.requires in
    let own = (own_label s c.args.term c.index-label.result.now good.indexed within c.index-label.ensures).1 in
    let is = read_is s.leaders c.index-label.result.now c.index.result.now (rw good.listed.leaders.each own.0) c.index.ensures in
    let P : GraphState → Type 0 = λ g. IsLeader g.standing c.args.term c.index.result.now in
    subst P c.self.view_is (leader_is s good c.args.term c.index-label.result.now within c.index-label.ensures c.index.result.now is)
