use Rattle.std.proofs.Common.{◌≡◌, ◌+◌, ℕ, All, length}
use Rattle.match_pool.specs.Ring.{IsAlone, pushed_by}
use Rattle.match_pool.specs.Weights.{weigh, weigh_below}
use Rattle.match_pool.proofs.ring.deal.Given as goal

abbrev pub invariant-loop-number : goal.invariant-loop-number
invariant-loop-number l = record {
  alone : All (IsAlone l.workers) l.matchers;
  many : length l.matchers ≡ l.workers;
  pushed : (h : ℕ → ℕ) → pushed_by h l.matchers + weigh h l.starved.items ≡ pushed_by h l.initial.matchers + weigh h l.initial.starved.items + weigh_below h l.number;
}
