use Rattle.std.proofs.Common.{◌≡◌, ℕ, map, drop, Contains}
use Rattle.search_values.specs.Kept.{given_of}
use Rattle.search_branch.specs.Given.{kind_in}
use Rattle.search_branch.specs.Told.{KeepsNodes, AreToldBut}
use Rattle.search_branch.proofs.tell.set_found.Given as goal

abbrev pub invariant-loop-i : goal.invariant-loop-i
invariant-loop-i l = record {
  kinds : (given_of l.values).kinds ≡ map kind_in l.stack.formulas.nodes;
  told : AreToldBut (λ (n : ℕ). Contains (drop l.i l.found) n) l.stack.graph.standing l.stack.formulas.nodes
      (given_of l.values);
  keeps : KeepsNodes l.stack.formulas.nodes (given_of l.fn.values) (given_of l.values);
  saved : l.values.saved ≡ l.fn.values.saved;
}
