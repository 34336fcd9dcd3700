use Rattle.std.proofs.Common.{◌≤◌, length}
use Rattle.graph_trail.proofs.Unwinding.{Unwound}
use Rattle.graph_trail.proofs.trail.Trail.back_to_mark.Given as goal

abbrev pub invariant-loop-self : goal.invariant-loop-self
invariant-loop-self g l = record {
  above : l.mark ≤ length l.self-inside.notes.items;
  unwound : Unwound g.T.Undoable.undo_leaves l.fn.self l.self-inside.notes.items l.fn.value l.value;
}

abbrev pub decreases-loop-self : goal.decreases-loop-self
decreases-loop-self g l = length l.self-inside.notes.items
