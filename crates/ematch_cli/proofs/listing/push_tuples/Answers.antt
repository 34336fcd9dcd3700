use Rattle.std.proofs.Common.{List, ℕ, subst, refl, arith}
use Rattle.std.proofs.lemmas.Option.{slice_get_read}
use Rattle.em_printing.specs.Names.{names_of}
use Rattle.ematch_cli.specs.Listing.{IsTupleLine}
use Rattle.em_printing.specs.Writing.{Puts}
use Rattle.ematch_cli.proofs.Texts.{under_way_none, under_way_more, under_way_all}
use Rattle.ematch_cli.proofs.listing.push_tuples.Goals as goal

pub loop-i-init : goal.loop-i-init
loop-i-init g c = under_way_none (IsTupleLine (names_of c.args.session.now) (g.G.ClassGraph.standing c.args.graph.now)) c.args.tuples.now c.args.text.now.items

pub loop-i-preserved : goal.loop-i-preserved
loop-i-preserved g c =
    let IsLine = IsTupleLine (names_of c.args.session.now) (g.G.ClassGraph.standing c.args.graph.now) in
    let put = subst (λ (tuple : List ℕ). Puts (IsLine tuple) c.loop-i.text.items c.push_tuple.new.text.items) c.as_slice.ensures c.in_ok-push_tuple.ensures in
    under_way_more IsLine c.args.tuples.now c.args.text.now.items c.loop-i.i c.loop-i.text.items c.push_tuple.new.text.items
    c.index-tuples-i.result (slice_get_read c.args.tuples.now _ c.loop-i.i c.index-tuples-i.result refl (omega arith) c.index-tuples-i.is) put c.loop-i.invariant

pub returns : goal.returns
returns g c =
    under_way_all (IsTupleLine (names_of c.args.session.now) (g.G.ClassGraph.standing c.args.graph.now)) c.args.tuples.now c.args.text.now.items c.loop-i.i c.loop-i.text.items (omega arith) c.loop-i.invariant
