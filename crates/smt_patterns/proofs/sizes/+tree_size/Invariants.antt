use Rattle.std.proofs.Common.{◌≡◌, ◌≤◌, suc, take, sum_by}
use Rattle.smt_patterns.proofs.SizeLemmas.{counted}
use Rattle.smt_patterns.proofs.sizes.+tree_size.Given as goal

-- the size with the arguments so far
abbrev pub invariant-loop-i : goal.invariant-loop-i
invariant-loop-i l = record {
  is : l.size ≡ suc (sum_by (counted l.draft.rows l.row) (take l.i l.args));
  fits : l.size ≤ l.most;
}

abbrev pub decreases-tree_size : goal.decreases-tree_size
decreases-tree_size l = l.row
