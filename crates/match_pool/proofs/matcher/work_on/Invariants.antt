use Rattle.std.proofs.Common.{◌≡◌, ◌+◌, ◌≤◌, ◌<◌, ℕ, All, vec_len, vec_capacity}
use Rattle.crossbeam_deque.specs.Handles.{worker_flavor, worker_view}
use Rattle.match_pool.specs.Found.{weight}
use Rattle.match_pool.specs.Once.{IsAnswerIn}
use Rattle.match_pool.specs.Stealing.{IsSameOwner, robbed, stolen}
use Rattle.match_pool.specs.Weights.{weigh}
use Rattle.match_pool.proofs.matcher.work_on.Given as goal

abbrev pub invariant-loop-i : goal.invariant-loop-i
invariant-loop-i g l = record {
  same : IsSameOwner l.initial.own l.own;
  robbed : robbed l.next ≡ robbed l.initial.next;
  told : (h : ℕ → ℕ) → weight h l.found ≡ weigh h (worker_view l.own).taken + weigh h (stolen l.next);
  answers : All (IsAnswerIn (g.G.ClassGraph.standing l.graph) (g.G.ClassGraph.done l.graph) l.forest l.batch) l.found.answers.items;
  few : vec_len l.found.starved ≤ l.i;
  room : vec_capacity l.found.starved ≡ l.room;
}
