use Rattle.std.proofs.Common.{refl}
use Rattle.search_watch.proofs.OverLemmas.{leader_stands}
use Rattle.search_watch.proofs.LiteralLemmas.{literal_serves}
use Rattle.search_watch.proofs.watch.Watch.add_literal.Goals as goal

pub put-requires : goal.put-requires
put-requires g c =
    c.requires.serves.2.watched.literals_stand c.leader-leader.result (leader_stands (g.G.ClassGraph.standing c.args.graph.now) c.args.term c.leader-leader.result c.len-terms.ensures.lawful c.leader-leader.ensures)

pub returns-clause-serves : goal.returns-clause-serves
returns-clause-serves g c = λ ends bound of lt.
    let standing = g.G.ClassGraph.standing c.args.graph.now in
    literal_serves standing ends bound c.args.item c.args.term c.leader-leader.result c.args.self.now (record { literals = c.put.new.self; differs = c.args.self.now.differs }) of lt c.requires.term c.leader-leader.ensures
    (of.watched.literals_stand c.leader-leader.result (leader_stands standing c.args.term c.leader-leader.result c.len-terms.ensures.lawful c.leader-leader.ensures)) c.in_ok-put.ensures.ok refl
