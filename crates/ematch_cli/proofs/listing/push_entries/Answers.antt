use Rattle.std.proofs.Common.{get_or, arith}
use Rattle.std.proofs.lemmas.Option.{slice_get-get_or}
use Rattle.graph_meaning.specs.Standing.{terms_of}
use Rattle.em_printing.specs.Names.{names_of}
use Rattle.ematch_cli.specs.Listing.{IsEntry}
use Rattle.ematch_cli.proofs.Texts.{under_way_none, under_way_more, under_way_all}
use Rattle.ematch_cli.proofs.listing.push_entries.Goals as goal

pub loop-i-init : goal.loop-i-init
loop-i-init g c = under_way_none (IsEntry (names_of c.args.session.now) (terms_of (g.G.ClassGraph.standing c.args.graph.now))) c.args.tuple.now c.args.text.now.items

pub loop-i-preserved : goal.loop-i-preserved
loop-i-preserved g c =
    under_way_more (IsEntry (names_of c.args.session.now) (terms_of (g.G.ClassGraph.standing c.args.graph.now))) c.args.tuple.now c.args.text.now.items c.loop-i.i c.loop-i.text.items c.push_entry.new.text.items
    (get_or c.args.tuple.now c.loop-i.i 0) (slice_get-get_or c.args.tuple.now c.loop-i.i 0 (omega arith)) c.in_ok-push_entry.ensures c.loop-i.invariant

pub returns : goal.returns
returns g c =
    under_way_all (IsEntry (names_of c.args.session.now) (terms_of (g.G.ClassGraph.standing c.args.graph.now))) c.args.tuple.now c.args.text.now.items c.loop-i.i c.loop-i.text.items (omega arith) c.loop-i.invariant
