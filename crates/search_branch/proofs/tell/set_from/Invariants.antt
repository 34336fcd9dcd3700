use Rattle.std.proofs.Common.{◌≡◌, ℕ, ◌≤◌, map}
use Rattle.search_values.specs.Kept.{given_of}
use Rattle.search_branch.specs.Given.{kind_in}
use Rattle.search_branch.specs.Told.{KeepsNodes, AreToldBut}
use Rattle.search_branch.proofs.tell.set_from.Given as goal

abbrev pub invariant-loop-n : goal.invariant-loop-n
invariant-loop-n l = record {
  kinds : (given_of l.values).kinds ≡ map kind_in l.stack.formulas.nodes;
  told : AreToldBut (λ (m : ℕ). l.n ≤ m) l.stack.graph.standing l.stack.formulas.nodes (given_of l.values);
  keeps : KeepsNodes l.stack.formulas.nodes (given_of l.fn.values) (given_of l.values);
  saved : l.values.saved ≡ l.fn.values.saved;
}
