use Rattle.std.proofs.Common.{◌≡◌, ◌<◌, length, Some, sym, ap, subst, ◌∙◌, arith}
use Rattle.std.specs.Prelude.{slice_get}
use Rattle.std.proofs.lemmas.Option.{slice_get-get_or}
use Rattle.graph_meaning.specs.Match.{AreMatches}
use Rattle.graph_meaning.specs.Standing.{triggers_of}
use Rattle.em_printing.specs.Names.{names_of}
use Rattle.ematch_cli.specs.Listing.{IsTriggerListing}
use Rattle.ematch_cli.proofs.Texts.{under_way_none, under_way_more, under_way_all}
use Rattle.ematch_cli.proofs.listing.push_triggers.Goals as goal

pub loop-n-init : goal.loop-n-init
loop-n-init g c = under_way_none (IsTriggerListing (names_of c.args.session.now) c.args.graph.now.standing) (triggers_of c.args.graph.now.standing) c.args.text.now.items

pub push_trigger-requires-clause-matches : goal.push_trigger-requires-clause-matches
push_trigger-requires-clause-matches g c =
    let standing = c.args.graph.now.standing in
    let lists = c.in_ok-matches.matches.items in
    let n = c.loop-n.n in
    let all = c.in_ok-matches.ensures in
    let below : n < length lists = omega (arith, c.loop-n-test.true, c.triggers-n-end.ensures, all.each_trigger) in
    let list : slice_get lists n ≡ Some c.index.result.now = slice_get-get_or lists n c.index.result.now below ∙ ap Some (sym c.index.ensures) in
    λ trigger has. subst (AreMatches standing trigger) (sym c.as_slice-tuples.ensures) (all.are n trigger c.index.result.now has list)

pub loop-n-preserved : goal.loop-n-preserved
loop-n-preserved g c =
    let text = c.in_ok-push_trigger.ensures in
    under_way_more (IsTriggerListing (names_of c.args.session.now) c.args.graph.now.standing) (triggers_of c.args.graph.now.standing) c.args.text.now.items
    c.loop-n.n c.loop-n.text.items c.push_trigger.new.text.items text.1.0 text.1.1 (text.0, text.1.2, text.2) c.loop-n.invariant

pub returns : goal.returns
returns g c =
    under_way_all (IsTriggerListing (names_of c.args.session.now) c.args.graph.now.standing) (triggers_of c.args.graph.now.standing) c.args.text.now.items
    c.loop-n.n c.loop-n.text.items (omega (arith, c.triggers-n-end.ensures, c.loop-n-test.false)) c.loop-n.invariant
