use Rattle.std.proofs.Common.{subst}
use Rattle.graph_meaning.specs.Standing.{triggers_of}
use Rattle.match_paths.specs.Climbing.{FindsAll}
use Rattle.match_paths.specs.Paths.{Paths}
use Rattle.match_paths.proofs.PathsLemmas.{found_through, through_justified}
use Rattle.match_paths.proofs.path_index.PathIndex.owed_by.Goals as goal

pub returns-clause-through : goal.returns-clause-through
returns-clause-through g c =
    let standing = g.G.ClassGraph.standing c.args.graph.now in
    λ triggers serves. found_through standing c.args.self.now triggers c.args.joined.now.left c.in_ok-claims.claims serves
    (subst (λ (p : Paths). FindsAll standing p.trees p.list c.args.joined.now.left c.in_ok-claims.claims) c.self.view_is c.in_ok-claims.ensures)

pub returns-clause-justified : goal.returns-clause-justified
returns-clause-justified g c before serves since =
    let standing = g.G.ClassGraph.standing c.args.graph.now in
    through_justified before standing c.args.joined.now.left c.args.joined.now.right c.in_ok-claims.claims since
    (returns-clause-through g c (triggers_of standing) serves)
