use Rattle.std.proofs.Common.{ℕ, ◌<◌, [], take, All}
use Rattle.search_watch.specs.Covers.{ItemsBelow}
use Rattle.search_watch.specs.Watched.{World, IsWatched, AreLed, KeepsItems, LooksAtUnions}
use Rattle.search_watch.specs.Back.{CanGoBack}
use Rattle.search_watch.proofs.watch.Watch.try_unions.Given as goal

abbrev pub invariant-loop-k : goal.invariant-loop-k
invariant-loop-k l = record {
  watched : (world : World) → IsWatched world [] l.fn.self → AreLed world l.unions → IsWatched world (take l.k l.unions) l.self;
  looks : (world : World) → IsWatched world [] l.fn.self → AreLed world l.unions → LooksAtUnions world l.unions l.k l.literals.items l.differs.items;
  literals_below : (count : ℕ) → ItemsBelow count l.fn.self.literals.chains → All (λ item. item < count) l.fn.literals.items → All (λ item. item < count) l.literals.items;
  differs_below : (count : ℕ) → ItemsBelow count l.fn.self.differs.chains → All (λ item. item < count) l.fn.differs.items → All (λ item. item < count) l.differs.items;
  items : KeepsItems l.fn.self l.self;
  back : CanGoBack l.fn.self l.self;
}
