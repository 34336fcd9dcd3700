use Rattle.std.proofs.Common.{ℕ, ◌<◌, List, take, All}
use Rattle.graph_meaning.specs.Same.{Same}
use Rattle.search_watch.specs.Covers.{Covers, ItemsBelow}
use Rattle.search_watch.specs.Watched.{Gathers}
use Rattle.search_watch.specs.Follow.{HasBetween}
use Rattle.search_watch.proofs.between.gather_between.Given as goal

abbrev pub invariant-loop-i : goal.invariant-loop-i
invariant-loop-i g l = record {
  between : (ends : List (ℕ × ℕ)) → Covers (Same (g.G.ClassGraph.standing l.graph)) ends l.chains → HasBetween (g.G.ClassGraph.standing l.graph) l.differs (take l.i l.found) ends l.literals.items;
  gathers : Gathers l.fn.literals.items l.literals.items;
  below : (count : ℕ) → ItemsBelow count l.chains → All (λ item. item < count) l.fn.literals.items → All (λ item. item < count) l.literals.items;
}
