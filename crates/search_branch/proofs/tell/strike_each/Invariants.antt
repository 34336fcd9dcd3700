use Rattle.std.proofs.Common.{◌≡◌, take}
use Rattle.search_values.specs.Kept.{given_of}
use Rattle.search_branch.specs.Struck.{StrikesAll}
use Rattle.search_branch.proofs.tell.strike_each.Given as goal

abbrev pub invariant-loop-i : goal.invariant-loop-i
invariant-loop-i l = record {
  strikes : StrikesAll (take l.i l.struck) (given_of l.fn.values) (given_of l.values);
  saved : l.values.saved ≡ l.fn.values.saved;
}
