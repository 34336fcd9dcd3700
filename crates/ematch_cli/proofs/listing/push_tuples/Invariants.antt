use Rattle.em_printing.specs.Names.{names_of}
use Rattle.ematch_cli.specs.Listing.{IsTupleLine}
use Rattle.ematch_cli.proofs.Texts.{IsUnderWay}
use Rattle.ematch_cli.proofs.listing.push_tuples.Given as goal

abbrev pub invariant-loop-i : goal.invariant-loop-i
invariant-loop-i g l = IsUnderWay (IsTupleLine (names_of l.session) (g.G.ClassGraph.standing l.graph)) l.tuples l.fn.text.items l.i l.text.items
