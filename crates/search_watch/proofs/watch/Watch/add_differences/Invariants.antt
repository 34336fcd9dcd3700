use Rattle.std.proofs.Common.{ℕ, List, take}
use Rattle.search_watch.specs.Back.{CanGoBack}
use Rattle.search_watch.specs.Service.{service}
use Rattle.search_watch.specs.Follow.{ServesOver}
use Rattle.search_watch.proofs.watch.Watch.add_differences.Given as goal

abbrev pub invariant-loop-d : goal.invariant-loop-d
invariant-loop-d g l = record {
  serves : (ends : List (ℕ × ℕ)) (bound : ℕ) → ServesOver (service (g.G.ClassGraph.standing l.graph) ends bound) (take l.earlier l.differs) l.fn.self → ServesOver (service (g.G.ClassGraph.standing l.graph) ends bound) (take l.d l.differs) l.self;
  back : CanGoBack l.fn.self l.self;
}
