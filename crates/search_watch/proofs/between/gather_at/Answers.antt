use Rattle.search_watch.proofs.OverLemmas.{leader_stands}
use Rattle.search_watch.proofs.BetweenLemmas.{near_stands}
use Rattle.search_watch.proofs.between.gather_at.Goals as goal

pub sides-near-requires-clause-left : goal.sides-near-requires-clause-left
sides-near-requires-clause-left g c =
    c.requires.have c.leader-of_left.result (leader_stands (g.G.ClassGraph.standing c.args.graph.now) c.args.left c.leader-of_left.result c.len-terms.ensures.lawful c.leader-of_left.ensures)

pub sides-near-requires-clause-right : goal.sides-near-requires-clause-right
sides-near-requires-clause-right g c =
    c.requires.have c.leader-of_right.result (leader_stands (g.G.ClassGraph.standing c.args.graph.now) c.args.right c.leader-of_right.result c.len-terms.ensures.lawful c.leader-of_right.ensures)

pub gather-requires : goal.gather-requires
gather-requires g c =
    let standing = g.G.ClassGraph.standing c.args.graph.now in
    near_stands c.args.chains.now c.leader-of_left.result c.leader-of_right.result c.sides-near.result.0 c.sides-near.result.1 c.sides-near.ensures.sides
    (c.requires.have c.leader-of_left.result (leader_stands standing c.args.left c.leader-of_left.result c.len-terms.ensures.lawful c.leader-of_left.ensures))
    (c.requires.have c.leader-of_right.result (leader_stands standing c.args.right c.leader-of_right.result c.len-terms.ensures.lawful c.leader-of_right.ensures))
