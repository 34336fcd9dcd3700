use Rattle.std.proofs.Common.{◌≡◌, ◌≤◌, ℕ, All, length, vec_len, vec_capacity}
use Rattle.match_pool.specs.Found.{weight}
use Rattle.match_pool.specs.Once.{IsAnswerIn}
use Rattle.match_pool.specs.Weights.{weigh_below}
use Rattle.match_pool.proofs.pool.run_each.Given as goal

abbrev pub invariant-loop-number : goal.invariant-loop-number
invariant-loop-number g l = record {
  told : (h : ℕ → ℕ) → weight h l.found ≡ weigh_below h l.number;
  answers : All (IsAnswerIn (g.G.ClassGraph.standing l.graph) (g.G.ClassGraph.done l.graph) l.forest l.batch) l.found.answers.items;
  few : vec_len l.found.starved ≤ l.number;
  room : length l.batch ≤ vec_capacity l.found.starved;
  end : l.number-end ≡ length l.batch;
}
