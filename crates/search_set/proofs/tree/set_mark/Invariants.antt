use Rattle.std.proofs.Common.{◌≡◌, ◌<◌, ◌≤◌, ◌/◌, ◌*◌, slice_set, drop}
use Rattle.search_set.proofs.TreeLemmas.{IsTreeBut}
use Rattle.search_set.proofs.tree.set_mark.Given as goal

abbrev pub invariant-loop-at : goal.invariant-loop-at
invariant-loop-at l = record {
  one : 1 ≤ l.at;
  within : l.at < 2 * l.room;
  tree : IsTreeBut l.marks l.height (l.at / 2);
  bottom : drop l.room l.marks ≡ slice_set (drop l.room l.fn.marks) l.number l.on;
}

abbrev pub decreases-loop-at : goal.decreases-loop-at
decreases-loop-at l = l.at
