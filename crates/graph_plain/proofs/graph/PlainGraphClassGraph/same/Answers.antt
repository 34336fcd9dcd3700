use Rattle.std.proofs.Common.{◌<◌, ◌↔◌, ◌==◌, IsTrue, length, subst, sym, ap}
use Rattle.graph_meaning.specs.Same.{Same}
use Rattle.graph_meaning.specs.Standing.{terms_of}
use Rattle.graph_meaning.specs.State.{GraphState}
use Rattle.graph_plain.proofs.GraphLemmas.{same_from_reads}
use Rattle.graph_plain.proofs.graph.PlainGraphClassGraph.same.Goals as goal

pub returns : goal.returns
returns c =
    let is = ap (λ (s : GraphState). s.standing) c.self.view_is in
    let sound = c.self.invariant.kept in
    subst (λ standing. IsTrue (c.index.result.now == c.index-2.result.now) ↔ Same standing c.args.left c.args.right) is
    (same_from_reads c.self.inside.standing.items c.self.inside.labels.items sound.lawful.whole.ends sound.sound sound.merged sound.congruent c.args.left c.args.right
    (subst (λ standing. c.args.left < length (terms_of standing)) (sym is) c.requires.left) (subst (λ standing. c.args.right < length (terms_of standing)) (sym is) c.requires.right) _ _ c.index.ensures c.index-2.ensures)
