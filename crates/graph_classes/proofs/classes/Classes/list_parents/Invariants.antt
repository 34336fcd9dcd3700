use Rattle.graph_classes.specs.History.{now, KeepsHistory}
use Rattle.graph_classes.specs.Listed.{ListsMore}
use Rattle.graph_classes.proofs.ListingLemmas.{AreListedBelow}
use Rattle.graph_classes.proofs.classes.Classes.list_parents.Given as goal

abbrev pub invariant-loop-argument : goal.invariant-loop-argument
invariant-loop-argument l = record {
  more : ListsMore (now l.fn.self) (now l.self);
  listed : AreListedBelow (now l.self) l.term l.argument;
  history : KeepsHistory l.fn.self l.self;
}
