use Rattle.std.proofs.Common.{◌≡◌, ◌≤◌, length, take}
use Rattle.search_values.specs.Kept.{given_of}
use Rattle.search_branch.proofs.AssertLemmas.{AreToldOf}
use Rattle.search_branch.proofs.tell.assert_new.Given as goal

abbrev pub invariant-loop-i : goal.invariant-loop-i
invariant-loop-i l = record {
  within : l.i ≤ length l.asserted;
  told : AreToldOf l.formulas.nodes (take l.i l.asserted) (given_of l.fn.values) (given_of l.values);
  saved : l.values.saved ≡ l.fn.values.saved;
}
