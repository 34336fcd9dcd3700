use Rattle.std.proofs.Common.{[]}
use Rattle.formula_table.proofs.NodeLemmas.{NodesSoFar}
use Rattle.formula_table.proofs.enter_body.enter_body_nodes.Given as goal

abbrev pub ghost-enter_body_node : goal.ghost-enter_body_node
ghost-enter_body_node g a = g.body

-- the nodes so far were entered
abbrev pub invariant-loop-n : goal.invariant-loop-n
invariant-loop-n g l = NodesSoFar g.body l.terms [] l.fn.table l.table l.numbers.items l._n
