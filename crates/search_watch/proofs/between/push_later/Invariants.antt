use Rattle.std.proofs.Common.{ℕ, ◌<◌, ◌≤◌, All, Contains}
use Rattle.search_watch.specs.Watched.{Gathers}
use Rattle.search_watch.proofs.between.push_later.Given as goal

abbrev pub invariant-loop-d : goal.invariant-loop-d
invariant-loop-d l = record {
  gathers : Gathers l.fn.found.items l.found.items;
  later : (k : ℕ) → l.earlier ≤ k → k < l.d → Contains l.found.items k;
  below : All (λ k. k < l.count) l.fn.found.items → All (λ k. k < l.count) l.found.items;
}
