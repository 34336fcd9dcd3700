use Rattle.std.proofs.Common.{take, drop, length, List, ℕ}
use Rattle.graph_classes.specs.State.{list_at}
use Rattle.graph_classes.specs.History.{now, KeepsHistory}
use Rattle.graph_classes.specs.Indexed.{HasUsesMoved, IsClosing}
use Rattle.graph_meaning.specs.Lawful.{EndsBelow}
use Rattle.graph_classes.proofs.classes.Classes.sign_uses.Given as goal

abbrev pub invariant-loop-i : goal.invariant-loop-i
invariant-loop-i l = record {
  so_far : HasUsesMoved (now l.fn.self) (now l.self) (take l.i (list_at l.fn.self.parts.uses.items l.from)) l.into;
  pending_in : EndsBelow l.pending.items (length l.fn.self.parts.rows.rows);
  closing : (merges : List (ℕ × ℕ)) → IsClosing merges (now l.fn.self) l.fn.pending.items (list_at l.fn.self.parts.uses.items l.from) → IsClosing merges (now l.self) l.pending.items (drop l.i (list_at l.fn.self.parts.uses.items l.from));
  history : KeepsHistory l.fn.self l.self;
}
