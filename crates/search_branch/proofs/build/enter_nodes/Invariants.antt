use Rattle.std.proofs.Common.{◌≡◌, ◌≤◌, take}
use Rattle.search_values.specs.Kept.{given_of}
use Rattle.search_branch.specs.Grown.{ComesBehind}
use Rattle.search_branch.proofs.build.enter_nodes.Given as goal

abbrev pub invariant-loop-n : goal.invariant-loop-n
invariant-loop-n l = record {
  from : l.first ≤ l.n;
  behind : ComesBehind (take l.n l.formulas.nodes) l.first (given_of l.fn.values) (given_of l.values);
  saved : l.values.saved ≡ l.fn.values.saved;
}
