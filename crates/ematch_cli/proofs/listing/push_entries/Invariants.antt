use Rattle.graph_meaning.specs.Standing.{terms_of}
use Rattle.em_printing.specs.Names.{names_of}
use Rattle.ematch_cli.specs.Listing.{IsEntry}
use Rattle.ematch_cli.proofs.Texts.{IsUnderWay}
use Rattle.ematch_cli.proofs.listing.push_entries.Given as goal

abbrev pub invariant-loop-i : goal.invariant-loop-i
invariant-loop-i g l = IsUnderWay (IsEntry (names_of l.session) (terms_of (g.G.ClassGraph.standing l.graph))) l.tuple l.fn.text.items l.i l.text.items
