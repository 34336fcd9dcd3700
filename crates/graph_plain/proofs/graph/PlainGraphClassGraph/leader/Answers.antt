use Rattle.std.proofs.Common.{◌<◌, length, subst, sym, ap}
use Rattle.graph_meaning.specs.Same.{IsLeader}
use Rattle.graph_meaning.specs.Standing.{terms_of}
use Rattle.graph_meaning.specs.State.{GraphState}
use Rattle.graph_plain.proofs.GraphLemmas.{leader_from_read}
use Rattle.graph_plain.proofs.graph.PlainGraphClassGraph.leader.Goals as goal

pub returns : goal.returns
returns c =
    let is = ap (λ (s : GraphState). s.standing) c.self.view_is in
    let sound = c.self.invariant.kept in
    subst (λ standing. IsLeader standing c.args.term c.index.result.now) is
    (leader_from_read c.self.inside.standing.items c.self.inside.labels.items sound.lawful.whole.ends sound.sound sound.merged sound.congruent c.args.term
    (subst (λ standing. c.args.term < length (terms_of standing)) (sym is) c.requires) _ c.index.ensures)
