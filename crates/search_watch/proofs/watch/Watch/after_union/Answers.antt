use Rattle.std.proofs.Common.{◌++◌, ◌∷◌, [], List, take, slice_index_or, sym, subst}
use Rattle.std.proofs.lemmas.Option.{slice_get-get_or}
use Rattle.graph_meaning.specs.declared.union.Union.{Union}
use Rattle.graph_meaning.specs.Unions.{Generated, WasSame, union_of}
use Rattle.search_watch.specs.Chains.{Chained}
use Rattle.search_watch.specs.Covers.{Covers}
use Rattle.search_watch.specs.Watched.{classes, HaveChains, LooksAtUnion}
use Rattle.search_watch.proofs.CoverLemmas.{join_covers}
use Rattle.search_watch.proofs.WatchLemmas.{chains_stand, gathers, finds, looks_at, moved_least, both_stand, take_next, same_union, items_joined, found_below}
use Rattle.search_watch.proofs.watch.Watch.after_union.Goals as goal

pub returns-clause-watched : goal.returns-clause-watched
returns-clause-watched c = λ w watched leads.
    let unions = c.args.unions.now in
    let union : Union = slice_index_or unions c.args.k (union_of 0 0) in
    let stands = slice_get-get_or unions c.args.k (union_of 0 0) c.requires.stands in
    let led = leads c.args.k union stands in
    let sides = c.sides-moved.ensures in
    let stand = both_stand w.terms union _ _ led.left led.right sides in
    let next = take_next unions c.args.k union stands in
    let now = λ (s : Chained). Covers (Generated (WasSame w.standing w.terms) (take c.args.k unions ++ union ∷ [])) w.literal_ends s in
    let now' = λ (s : Chained). Covers (Generated (WasSame w.standing w.terms) (take c.args.k unions ++ union ∷ [])) w.differ_ends s in
    let of = λ (us : List Union). Covers (Generated (WasSame w.standing w.terms) us) w.literal_ends c.join.new.self.chains in
    let of' = λ (us : List Union). Covers (Generated (WasSame w.standing w.terms) us) w.differ_ends c.join-2.new.self.chains in
    let have = λ (s : Chained). HaveChains w.terms s in
    record {
      literals_stand = subst have (sym c.in_ok-join.ensures.ok) (chains_stand w.terms c.args.self.now.literals.chains _ _ (watched.literals_stand _ stand.1) watched.literals_stand);
      differs_stand = subst have (sym c.in_ok-join-2.ensures.ok) (chains_stand w.terms c.args.self.now.differs.chains _ _ (watched.differs_stand _ stand.1) watched.differs_stand);
      literals = subst of (sym next) (subst now (sym c.in_ok-join.ensures.ok) (join_covers w.standing w.terms (take c.args.k unions) union w.literal_ends c.args.self.now.literals.chains _ _ watched.literals led.leads (led.left, led.right) sides (watched.literals_stand _ stand.0) (watched.literals_stand _ stand.1)));
      differs = subst of' (sym next) (subst now' (sym c.in_ok-join-2.ensures.ok) (join_covers w.standing w.terms (take c.args.k unions) union w.differ_ends c.args.self.now.differs.chains _ _ watched.differs led.leads (led.left, led.right) sides (watched.differs_stand _ stand.0) (watched.differs_stand _ stand.1)));
    }

pub returns-clause-looks : goal.returns-clause-looks
returns-clause-looks c = λ w watched leads other at.
    let unions = c.args.unions.now in
    let union : Union = slice_index_or unions c.args.k (union_of 0 0) in
    let stands = slice_get-get_or unions c.args.k (union_of 0 0) c.requires.stands in
    let led = leads c.args.k union stands in
    let sides = c.sides-moved.ensures in
    let least = moved_least (classes w (take c.args.k unions)) union _ _ led.leads sides in
    let looks = looks_at w (take c.args.k unions) union _ _ c.gather.new.found.items c.gather-2.new.found.items sides
    (finds (classes w (take c.args.k unions)) w.literal_ends c.args.self.now.literals.chains _ c.args.literals.now.items c.gather.new.found.items watched.literals least c.in_ok-gather.ensures)
    (finds (classes w (take c.args.k unions)) w.differ_ends c.args.self.now.differs.chains _ c.args.differs.now.items c.gather-2.new.found.items watched.differs least c.in_ok-gather-2.ensures) in
    subst (λ (u : Union). LooksAtUnion w (take c.args.k unions) u c.gather.new.found.items c.gather-2.new.found.items) (same_union unions c.args.k union other stands at) looks

pub returns-clause-literals : goal.returns-clause-literals
returns-clause-literals c = gathers c.args.literals.now.items c.gather.new.found.items _ c.in_ok-gather.ensures

pub returns-clause-items : goal.returns-clause-items
returns-clause-items c =
    let world = c.requires.watched.0 in
    let watched = c.requires.watched.1 in
    let unions = c.args.unions.now in
    let union : Union = slice_index_or unions c.args.k (union_of 0 0) in
    let led = c.requires.watched.2 c.args.k union (slice_get-get_or unions c.args.k (union_of 0 0) c.requires.stands) in
    let stand = both_stand world.terms union _ _ led.left led.right c.sides-moved.ensures in
    items_joined c.args.self.now (record { literals = c.join.new.self; differs = c.join-2.new.self }) _ _ (watched.literals_stand _ stand.1) (watched.differs_stand _ stand.1)
    c.in_ok-join.ensures.ok c.in_ok-join-2.ensures.ok

pub join-requires-2-clause-kept : goal.join-requires-2-clause-kept
join-requires-2-clause-kept c =
    let world = c.requires.watched.0 in
    let unions = c.args.unions.now in
    let union : Union = slice_index_or unions c.args.k (union_of 0 0) in
    let led = c.requires.watched.2 c.args.k union (slice_get-get_or unions c.args.k (union_of 0 0) c.requires.stands) in
    let stand = both_stand world.terms union _ _ led.left led.right c.sides-moved.ensures in
    c.requires.watched.1.differs_stand _ stand.1

pub returns-clause-literals_below : goal.returns-clause-literals_below
returns-clause-literals_below c = λ count below all. found_below c.args.self.now.literals.chains _ count c.args.literals.now.items c.gather.new.found.items c.in_ok-gather.ensures below all

pub returns-clause-differs_below : goal.returns-clause-differs_below
returns-clause-differs_below c = λ count below all. found_below c.args.self.now.differs.chains _ count c.args.differs.now.items c.gather-2.new.found.items c.in_ok-gather-2.ensures below all
