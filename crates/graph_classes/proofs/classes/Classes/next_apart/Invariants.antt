use Rattle.std.proofs.Common.{ℕ, List, [], length, vec_len}
use Rattle.graph_classes.specs.History.{now as state_now}
use Rattle.graph_classes.specs.Indexed.{IsClosing}
use Rattle.graph_meaning.specs.Lawful.{EndsBelow}
use Rattle.graph_classes.proofs.classes.Classes.next_apart.Given as goal

abbrev pub invariant-loop-left : goal.invariant-loop-left
invariant-loop-left l = record {
  pending_in : EndsBelow l.pending.items (length l.self.parts.rows.rows);
  closing : (merges : List (ℕ × ℕ)) → IsClosing merges (state_now l.self) l.fn.pending.items [] → IsClosing merges (state_now l.self) l.pending.items [];
}

abbrev pub decreases-loop-left : goal.decreases-loop-left
decreases-loop-left l = vec_len l.pending
