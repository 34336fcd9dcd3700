use Rattle.search_watch.proofs.FreshLemmas.{IsFresh}
use Rattle.search_watch.proofs.watch.Watch.add_terms.Given as goal

abbrev pub invariant-loop-k : goal.invariant-loop-k
invariant-loop-k l = record {
  literals : IsFresh l._k l.self.literals.chains;
  differs : IsFresh l._k l.self.differs.chains;
}
