use Rattle.formula_table.proofs.NodeLemmas.{NodesSoFar}
use Rattle.formula_table.proofs.enter_nodes.enter_nodes.Given as goal

-- the nodes so far were entered
abbrev pub invariant-loop-n : goal.invariant-loop-n
invariant-loop-n l = NodesSoFar l.formula l.terms l.foralls l.fn.table l.table l.numbers.items l.n
