use Rattle.std.proofs.Common.{length}
use Rattle.formula_draft.specs.DraftNode.{foralls_of}
use Rattle.formula_table.proofs.MarkLemmas.{AreNamed}
use Rattle.formula_table.proofs.reached.named_foralls.Given as goal

-- the foralls of the nodes so far are marked
abbrev pub invariant-loop-n : goal.invariant-loop-n
invariant-loop-n l = AreNamed foralls_of l.formula.nodes l.start (length l.formula.foralls) l.n l.marks.items
