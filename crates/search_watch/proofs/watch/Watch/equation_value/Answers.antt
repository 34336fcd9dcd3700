use Rattle.std.proofs.Common.{length}
use Rattle.graph_meaning.specs.Standing.{terms_of, differs_of}
use Rattle.search_watch.proofs.EndsLemmas.{are_differs}
use Rattle.search_watch.proofs.OverLemmas.{serving_chains}
use Rattle.search_watch.proofs.watch.Watch.equation_value.Goals as goal

pub equation_value-requires-clause-differs : goal.equation_value-requires-clause-differs
equation_value-requires-clause-differs g c =
    let standing = g.G.ClassGraph.standing c.args.graph.now in
    are_differs (length (terms_of standing)) c.args.differs.now (differs_of standing) c.requires.differs c.len-terms.ensures.lawful.whole.different_ends

pub equation_value-requires-clause-chains : goal.equation_value-requires-clause-chains
equation_value-requires-clause-chains g c =
    serving_chains (g.G.ClassGraph.standing c.args.graph.now) c.requires.serves.0 c.requires.serves.1 c.args.differs.now c.args.self.now c.len-terms.ensures.lawful c.requires.differs c.requires.serves.2
