use Rattle.std.proofs.Common.{◌≡◌, ◌≤◌, length}
use Rattle.formula_draft.specs.DraftNode.{parts_of}
use Rattle.formula_draft.specs.Reach.{ReachesNode}
use Rattle.formula_table.proofs.MarkLemmas.{IsClosing}
use Rattle.formula_table.proofs.reached.reached_nodes.Given as goal

-- from the node on, parts of what is marked are marked
abbrev pub invariant-loop-n : goal.invariant-loop-n
invariant-loop-n l = (l.n ≤ length l.formula.nodes) × IsClosing l.formula.nodes parts_of (ReachesNode l.formula.nodes l.start) (λ n. n ≡ l.start) l.n l.marks.items

abbrev pub decreases-loop-n : goal.decreases-loop-n
decreases-loop-n l = l.n
