use Rattle.match_workers.proofs.ArrangingLemmas.{all_arranged}
use Rattle.match_workers.proofs.matching.matched_by.Goals as goal

pub returns : goal.returns
returns g c = all_arranged (g.G.ClassGraph.standing c.args.graph.now) c.in_ok-lists.lists.items c.arrange_each.new.lists.items c.in_ok-lists.ensures c.in_ok-arrange_each.ensures
