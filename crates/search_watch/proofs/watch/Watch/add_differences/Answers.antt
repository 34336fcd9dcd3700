use Rattle.std.proofs.Common.{length, ap, ◌∙◌, arith}
use Rattle.graph_meaning.specs.Standing.{terms_of, differs_of}
use Rattle.search_watch.specs.declared.noted_chains.NotedChains.{NotedChains}
use Rattle.search_watch.specs.Chains.{Chained}
use Rattle.search_watch.specs.Service.{service}
use Rattle.search_watch.proofs.NotedLemmas.{back_none, back_trans}
use Rattle.search_watch.proofs.EndsLemmas.{are_differs}
use Rattle.search_watch.proofs.OverLemmas.{leader_stands, over_more, over_all}
use Rattle.search_watch.proofs.watch.Watch.add_differences.Goals as goal

pub loop-d-init : goal.loop-d-init
loop-d-init g c = record { serves = λ ends bound over. over; back = back_none c.args.self.now }

pub leader-left-requires : goal.leader-left-requires
leader-left-requires g c =
    let standing = g.G.ClassGraph.standing c.args.graph.now in
    (are_differs (length (terms_of standing)) c.args.differs.now (differs_of standing) c.requires.differs c.len-terms.ensures.lawful.whole.different_ends c.loop-d.d (omega arith)).0

pub leader-right-requires : goal.leader-right-requires
leader-right-requires g c =
    let standing = g.G.ClassGraph.standing c.args.graph.now in
    (are_differs (length (terms_of standing)) c.args.differs.now (differs_of standing) c.requires.differs c.len-terms.ensures.lawful.whole.different_ends c.loop-d.d (omega arith)).1

pub add_difference-requires-clause-left : goal.add_difference-requires-clause-left
add_difference-requires-clause-left g c =
    let over = c.loop-d.invariant.serves c.requires.serves.0 c.requires.serves.1 c.requires.serves.2 in
    over.watched.differs_stand c.leader-left.result (leader_stands (g.G.ClassGraph.standing c.args.graph.now) _ c.leader-left.result c.len-terms.ensures.lawful c.leader-left.ensures)

pub add_difference-requires-clause-right : goal.add_difference-requires-clause-right
add_difference-requires-clause-right g c =
    let over = c.loop-d.invariant.serves c.requires.serves.0 c.requires.serves.1 c.requires.serves.2 in
    over.watched.differs_stand c.leader-right.result (leader_stands (g.G.ClassGraph.standing c.args.graph.now) _ c.leader-right.result c.len-terms.ensures.lawful c.leader-right.ensures)

pub loop-d-preserved : goal.loop-d-preserved
loop-d-preserved g c = record {
  serves = λ ends bound over. over_more (service (g.G.ClassGraph.standing c.args.graph.now) ends bound) c.args.differs.now c.loop-d.d c.loop-d.self c.add_difference.new.self c.leader-left.result c.leader-right.result (omega arith)
      (c.loop-d.invariant.serves ends bound over) c.leader-left.ensures c.leader-right.ensures c.in_ok-add_difference.ensures.watched
      (λ count terms. record { literals = ap (λ (n : NotedChains). length n.chains.slots) c.in_ok-add_difference.ensures.literals ∙ terms.literals; differs = ap (λ (s : Chained). length s.slots) c.in_ok-add_difference.ensures.differs ∙ terms.differs })
      c.in_ok-add_difference.ensures.literals c.in_ok-add_difference.ensures.items;
  back = back_trans c.args.self.now c.loop-d.self c.add_difference.new.self c.loop-d.invariant.back c.in_ok-add_difference.ensures.back;
}

pub returns-in_err-add_difference-clause-back : goal.returns-in_err-add_difference-clause-back
returns-in_err-add_difference-clause-back g c = back_trans c.args.self.now c.loop-d.self c.add_difference.new.self c.loop-d.invariant.back c.in_err-add_difference.ensures.back

pub returns-clause-serves : goal.returns-clause-serves
returns-clause-serves g c = λ ends bound over. over_all (service (g.G.ClassGraph.standing c.args.graph.now) ends bound) c.args.differs.now c.loop-d.d c.loop-d.self (omega arith) (c.loop-d.invariant.serves ends bound over)
