use Rattle.std.proofs.Common.{◌≡◌, ◌+◌, ℕ}
use Rattle.crossbeam_deque.specs.Handles.{worker_view}
use Rattle.match_pool.specs.Weights.{weigh}
use Rattle.match_pool.specs.Stealing.{IsSameOwner}
use Rattle.match_pool.proofs.ring.drain.Given as goal

abbrev pub invariant-loop-round : goal.invariant-loop-round
invariant-loop-round l = record {
  same : IsSameOwner l.initial.own l.own;
  out : (h : ℕ → ℕ) → weigh h (worker_view l.own).taken + weigh h l.initial.starved.items ≡ weigh h (worker_view l.initial.own).taken + weigh h l.starved.items;
}
