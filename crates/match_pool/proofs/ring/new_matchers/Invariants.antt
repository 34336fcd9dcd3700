use Rattle.std.proofs.Common.{◌≡◌, ℕ, All, length}
use Rattle.match_pool.specs.Ring.{IsAlone, pushed_by}
use Rattle.match_pool.proofs.ring.new_matchers.Given as goal

abbrev pub invariant-loop-worker : goal.invariant-loop-worker
invariant-loop-worker l = record {
  alone : All (IsAlone l.workers) l.matchers.items;
  pushed : (h : ℕ → ℕ) → pushed_by h l.matchers.items ≡ 0;
  many : length l.matchers.items ≡ l.worker;
}
