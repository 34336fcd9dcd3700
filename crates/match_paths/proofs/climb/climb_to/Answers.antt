use Rattle.match_paths.proofs.ClimbLemmas.{climbs_this}
use Rattle.graph_meaning.specs.Same.{turned}
use Rattle.match_paths.proofs.climb.climb_to.Goals as goal

pub returns : goal.returns
returns g c = climbs_this (g.G.ClassGraph.standing c.args.graph.now) c.args.entries.now c.args.node c.args.parent c.leader-class.result c.args.tasks.now c.put.new.self c.args.claims.now c.find_at.new.claims c.in_ok-find_at.ensures (turned c.leader-class.ensures.same) c.in_ok-put.ensures
