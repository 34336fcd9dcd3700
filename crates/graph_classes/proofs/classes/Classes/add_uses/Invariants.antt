use Rattle.std.proofs.Common.{◌≡◌, take}
use Rattle.graph_classes.specs.History.{now, KeepsHistory}
use Rattle.graph_classes.specs.Indexed.{used}
use Rattle.graph_classes.proofs.classes.Classes.add_uses.Given as goal

abbrev pub invariant-loop-arg : goal.invariant-loop-arg
invariant-loop-arg l = record {
  so_far : now l.self ≡ record (now l.fn.self) { uses = used l.fn.self.parts.uses.items l.fn.self.parts.labels.items (take l.arg-index l.args) l.term };
  history : KeepsHistory l.fn.self l.self;
}
