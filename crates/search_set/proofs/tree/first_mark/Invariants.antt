use Rattle.std.proofs.Common.{◌≤◌, ◌-◌}
use Rattle.search_set.proofs.TreeLemmas.{IsDown}
use Rattle.search_set.proofs.tree.first_mark.Given as goal

abbrev pub invariant-loop-level : goal.invariant-loop-level
invariant-loop-level l = record {
  counted : l._level ≤ l.height;
  down : IsDown l.marks l.height (l.height - l._level) l.at;
}
