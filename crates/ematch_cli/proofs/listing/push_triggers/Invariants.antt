use Rattle.graph_meaning.specs.Standing.{triggers_of}
use Rattle.em_printing.specs.Names.{names_of}
use Rattle.ematch_cli.specs.Listing.{IsTriggerListing}
use Rattle.ematch_cli.proofs.Texts.{IsUnderWay}
use Rattle.ematch_cli.proofs.listing.push_triggers.Given as goal

abbrev pub invariant-loop-n : goal.invariant-loop-n
invariant-loop-n g l = IsUnderWay (IsTriggerListing (names_of l.session) l.graph.standing) (triggers_of l.graph.standing) l.fn.text.items l.n l.text.items
