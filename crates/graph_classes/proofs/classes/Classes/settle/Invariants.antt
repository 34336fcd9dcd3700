use Rattle.std.proofs.Common.{◌≡◌, ℕ, List, [], length}
use Rattle.graph_classes.specs.History.{now as state_now, KeepsHistory}
use Rattle.graph_meaning.specs.Unions.{AreUnions}
use Rattle.graph_classes.specs.Listed.{IsListed}
use Rattle.graph_classes.specs.Indexed.{IsIndexed, IsClosing, HaveOneLabel, own_from}
use Rattle.graph_meaning.specs.Lawful.{EndsBelow}
use Rattle.graph_classes.proofs.classes.Classes.settle.Given as goal

abbrev pub invariant-loop-left : goal.invariant-loop-left
invariant-loop-left l = record {
  rows : l.self.parts.rows.rows ≡ l.fn.self.parts.rows.rows;
  log : l.self.parts.log ≡ l.fn.self.parts.log;
  limit : l.self.parts.rows.limit ≡ l.fn.self.parts.rows.limit;
  indexed : IsIndexed (state_now l.self);
  listed : IsListed (state_now l.self);
  pending_in : EndsBelow l.pending.items (length l.self.parts.rows.rows);
  closing : (merges : List (ℕ × ℕ)) → IsClosing merges (state_now l.fn.self) l.fn.pending.items [] → IsClosing merges (state_now l.self) l.pending.items [];
  unions : AreUnions (length l.self.parts.rows.rows) (HaveOneLabel (length l.self.parts.rows.rows) l.fn.self.parts.labels.items) (HaveOneLabel (length l.self.parts.rows.rows) l.self.parts.labels.items) l.unions;
  history : KeepsHistory l.fn.self l.self;
}

abbrev pub decreases-loop-left : goal.decreases-loop-left
decreases-loop-left l = own_from 0 l.self.parts.labels.items
