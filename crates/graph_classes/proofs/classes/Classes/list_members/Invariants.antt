use Rattle.std.proofs.Common.{ℕ, take, Contains}
use Rattle.graph_classes.specs.State.{list_at}
use Rattle.graph_classes.specs.History.{now, KeepsHistory}
use Rattle.graph_classes.specs.Listed.{ListsMore, IsMemberListed}
use Rattle.graph_classes.proofs.classes.Classes.list_members.Given as goal

abbrev pub invariant-loop-i : goal.invariant-loop-i
invariant-loop-i l = record {
  more : ListsMore (now l.fn.self) (now l.self);
  listed : (t : ℕ) → Contains (take l.i (list_at l.fn.self.parts.members.items l.from)) t → IsMemberListed (now l.self) t;
  history : KeepsHistory l.fn.self l.self;
}
