use Rattle.std.proofs.Common.{◌≡◌, ◌+◌, ◌++◌, [], ◌∷◌, List, take, sym, ap, subst, ◌∙◌, arith}
use Rattle.std.proofs.lemmas.List.{map-append, take_all}
use Rattle.match_laws.specs.Due.{Stored}
use Rattle.match_found.specs.Stored.{stored_of, HaveStored}
use Rattle.match_found.specs.declared.stored_tuple.StoredTuple.{StoredTuple}
use Rattle.match_found.proofs.ListLemmas.{take_more_at, mapped_at}
use Rattle.match_found.proofs.StoredLemmas.{have_none, have_more}
use Rattle.match_found.proofs.listing.put_each.Goals as goal

pub loop-i-init : goal.loop-i-init
loop-i-init g c = have_none (g.G.ClassGraph.standing c.args.graph.now) c.args.lists.now.items c.requires.empty

pub put_leaders-requires-clause-trigger : goal.put_leaders-requires-clause-trigger
put_leaders-requires-clause-trigger g c =
    let one = c.tuple_at.result.now in
    let there = mapped_at (λ (one : StoredTuple). (one.trigger, one.tuple)) c.args.tuples.now c.loop-i.i one c.tuple_at.ensures in
    let below = (c.requires.stand one.trigger one.tuple there).0 in
    omega (arith, below, c.loop-i.invariant.each_trigger)

pub put_leaders-requires-clause-terms : goal.put_leaders-requires-clause-terms
put_leaders-requires-clause-terms g c =
    let one = c.tuple_at.result.now in
    let there = mapped_at (λ (one : StoredTuple). (one.trigger, one.tuple)) c.args.tuples.now c.loop-i.i one c.tuple_at.ensures in
    (c.requires.stand one.trigger one.tuple there).1

pub loop-i-preserved : goal.loop-i-preserved
loop-i-preserved g c =
    let standing = g.G.ClassGraph.standing c.args.graph.now in
    let one = c.tuple_at.result.now in
    let tuples = c.args.tuples.now in
    let there = mapped_at (λ (one : StoredTuple). (one.trigger, one.tuple)) tuples c.loop-i.i one c.tuple_at.ensures in
    let grown : stored_of (take (c.loop-i.i + 1) tuples) ≡ stored_of (take c.loop-i.i tuples) ++ (one.trigger, one.tuple) ∷ [] =
    ap stored_of (take_more_at tuples c.loop-i.i one c.tuple_at.ensures) ∙ map-append (λ (one : StoredTuple). (one.trigger, one.tuple)) (take c.loop-i.i tuples) (one ∷ []) in
    subst (λ (stored : Stored). HaveStored standing stored c.put_leaders.new.lists.items) (sym grown)
    (have_more standing (stored_of (take c.loop-i.i tuples)) one.trigger one.tuple c.loop-i.lists.items c.put_leaders.new.lists.items (c.requires.stand one.trigger one.tuple there).0 c.loop-i.invariant c.in_ok-put_leaders.ensures)

pub returns : goal.returns
returns g c =
    subst (λ (ts : List StoredTuple). HaveStored (g.G.ClassGraph.standing c.args.graph.now) (stored_of ts) c.loop-i.lists.items)
    (take_all c.loop-i.i c.args.tuples.now (omega (arith, c.loop-i-test.false))) c.loop-i.invariant
