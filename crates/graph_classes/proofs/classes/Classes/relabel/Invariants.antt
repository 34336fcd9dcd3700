use Rattle.std.proofs.Common.{◌≡◌, take}
use Rattle.graph_classes.specs.State.{list_at}
use Rattle.graph_classes.specs.History.{now, KeepsHistory}
use Rattle.graph_classes.specs.Indexed.{moved}
use Rattle.graph_classes.proofs.classes.Classes.relabel.Given as goal

abbrev pub invariant-loop-i : goal.invariant-loop-i
invariant-loop-i l = record {
  so_far : now l.self ≡ moved (now l.fn.self) (take l.i (list_at l.fn.self.parts.members.items l.from)) l.into;
  history : KeepsHistory l.fn.self l.self;
}
