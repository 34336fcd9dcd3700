use Rattle.search_watch.proofs.TermsLemmas.{terms_serve}
use Rattle.search_watch.proofs.watch.Watch.follow_terms.Goals as goal

pub returns-in-Ok-clause-serves : goal.returns-in-Ok-clause-serves
returns-in-Ok-clause-serves g c = λ before ends bound came of.
    terms_serve before (g.G.ClassGraph.standing c.args.graph.now) ends bound c.len.result c.args.self.now c.try_terms.new.self came c.len.ensures.value of c.in-Ok.ensures.literals c.in-Ok.ensures.differs
