use Rattle.std.proofs.Common.{ℕ, ◌<◌, ◌⊎◌, ◌↔◌, List, [], length, IsTrue, true, false, subst}
use Rattle.std.proofs.lemmas.List.Elements.{All-nil, All-same}
use Rattle.graph_meaning.specs.Standing.{terms_of, differs_of}
use Rattle.graph_meaning.specs.Same.{Same}
use Rattle.search_watch.specs.Found.{IsFoundClash}
use Rattle.search_watch.specs.Service.{service, world_of}
use Rattle.search_watch.specs.Follow.{HasBetween, world_over}
use Rattle.search_watch.proofs.NotedLemmas.{back_trans}
use Rattle.search_watch.proofs.EndsLemmas.{are_differs}
use Rattle.search_watch.proofs.SettleLemmas.{no_unions, covers_after}
use Rattle.search_watch.proofs.OverLemmas.{over_serves}
use Rattle.search_watch.proofs.FollowLemmas.{are_led, after_serves, found_numbers, clash_is, finds_changes, false_no}
use Rattle.search_watch.proofs.watch.Watch.follow.Goals as goal

-- ---- what is required

pub add_differences-requires-clause-serves : goal.add_differences-requires-clause-serves
add_differences-requires-clause-serves g c =
    let standing = g.G.ClassGraph.standing c.args.graph.now in
    let was = c.requires.behind.0 in
    let behind = c.requires.behind.1 in
    let led = are_led was standing c.args.unions.now c.args.earlier c.args.self.now behind in
    let watched = c.in_ok-after_unions.ensures.watched (world_of was) behind.serves.watched led in
    let first = after_serves was standing c.args.unions.now c.args.earlier c.args.self.now behind c.args.differs.now c.requires.differs c.after_unions.new.self watched c.in_ok-after_unions.ensures.items in
    (was.ends, was.bound, first)

pub has_clash-requires-clause-differs : goal.has_clash-requires-clause-differs
has_clash-requires-clause-differs g c =
    let standing = g.G.ClassGraph.standing c.args.graph.now in
    are_differs (length (terms_of standing)) c.args.differs.now (differs_of standing) c.requires.differs c.len-terms.ensures.lawful.whole.different_ends

pub has_clash-requires-clause-found : goal.has_clash-requires-clause-found
has_clash-requires-clause-found g c =
    let standing = g.G.ClassGraph.standing c.args.graph.now in
    let was = c.requires.behind.0 in
    let behind = c.requires.behind.1 in
    let count = length (differs_of was.standing) in
    let none = All-same (λ d. d < count) c.new-found.result.items [] c.new-found.ensures.items (All-nil (λ d. d < count)) in
    let numbers = found_numbers was standing c.args.unions.now c.args.earlier c.args.self.now behind c.args.differs.now c.requires.differs c.after_unions.new.differs.items
    (c.in_ok-after_unions.ensures.differs_below count behind.serves.differs none) in
    All-same (λ d. d < length c.args.differs.now) c.deref.result.now c.push_later.new.found.items c.deref.ensures.value (c.in_ok-push_later.ensures.below numbers)

pub gather_between-requires-clause-differs : goal.gather_between-requires-clause-differs
gather_between-requires-clause-differs g c =
    let standing = g.G.ClassGraph.standing c.args.graph.now in
    are_differs (length (terms_of standing)) c.args.differs.now (differs_of standing) c.requires.differs c.len-terms.ensures.lawful.whole.different_ends

pub gather_between-requires-clause-found : goal.gather_between-requires-clause-found
gather_between-requires-clause-found g c =
    let standing = g.G.ClassGraph.standing c.args.graph.now in
    let was = c.requires.behind.0 in
    let behind = c.requires.behind.1 in
    let count = length (differs_of was.standing) in
    let none = All-same (λ d. d < count) c.new-found.result.items [] c.new-found.ensures.items (All-nil (λ d. d < count)) in
    let numbers = found_numbers was standing c.args.unions.now c.args.earlier c.args.self.now behind c.args.differs.now c.requires.differs c.after_unions.new.differs.items
    (c.in_ok-after_unions.ensures.differs_below count behind.serves.differs none) in
    All-same (λ d. d < length c.args.differs.now) c.deref-2.result.now c.push_later.new.found.items c.deref-2.ensures.value (c.in_ok-push_later.ensures.below numbers)

pub gather_between-requires-clause-have : goal.gather_between-requires-clause-have
gather_between-requires-clause-have g c =
    let standing = g.G.ClassGraph.standing c.args.graph.now in
    let was = c.requires.behind.0 in
    let behind = c.requires.behind.1 in
    let led = are_led was standing c.args.unions.now c.args.earlier c.args.self.now behind in
    let watched = c.in_ok-after_unions.ensures.watched (world_of was) behind.serves.watched led in
    let first = after_serves was standing c.args.unions.now c.args.earlier c.args.self.now behind c.args.differs.now c.requires.differs c.after_unions.new.self watched c.in_ok-after_unions.ensures.items in
    let over = c.in_ok-add_differences.ensures.serves was.ends was.bound first in
    over.watched.literals_stand

-- ---- going back

pub returns-in_err-add_differences-clause-back : goal.returns-in_err-add_differences-clause-back
returns-in_err-add_differences-clause-back g c = back_trans c.args.self.now c.after_unions.new.self c.add_differences.new.self c.in_ok-after_unions.ensures.back c.in_err-add_differences.ensures.back

pub returns-in_err-push_later-clause-back : goal.returns-in_err-push_later-clause-back
returns-in_err-push_later-clause-back g c = back_trans c.args.self.now c.after_unions.new.self c.add_differences.new.self c.in_ok-after_unions.ensures.back c.in_ok-add_differences.ensures.back

pub returns-then-has_clash-clause-back : goal.returns-then-has_clash-clause-back
returns-then-has_clash-clause-back g c = back_trans c.args.self.now c.after_unions.new.self c.add_differences.new.self c.in_ok-after_unions.ensures.back c.in_ok-add_differences.ensures.back

pub returns-in_err-gather_between-clause-back : goal.returns-in_err-gather_between-clause-back
returns-in_err-gather_between-clause-back g c = back_trans c.args.self.now c.after_unions.new.self c.add_differences.new.self c.in_ok-after_unions.ensures.back c.in_ok-add_differences.ensures.back

pub returns-clause-back : goal.returns-clause-back
returns-clause-back g c = back_trans c.args.self.now c.after_unions.new.self c.add_differences.new.self c.in_ok-after_unions.ensures.back c.in_ok-add_differences.ensures.back

-- ---- clashes

pub returns-then-has_clash-clause-clash : goal.returns-then-has_clash-clause-clash
returns-then-has_clash-clause-clash g c =
    let standing = g.G.ClassGraph.standing c.args.graph.now in
    let was = c.requires.behind.0 in
    let behind = c.requires.behind.1 in
    let led = are_led was standing c.args.unions.now c.args.earlier c.args.self.now behind in
    let looks = c.in_ok-after_unions.ensures.looks (world_of was) behind.serves.watched led in
    let tells = subst (λ (ds : List ℕ). IsTrue true ↔ (Same standing 0 1 ⊎ IsFoundClash standing c.args.differs.now ds)) c.deref.ensures.value c.if-has_clash.ensures in
    let clash = clash_is was standing c.args.unions.now c.args.earlier c.args.self.now behind c.args.differs.now c.requires.differs c.after_unions.new.literals.items c.after_unions.new.differs.items c.push_later.new.found.items
    looks c.in_ok-push_later.ensures.gathers c.in_ok-push_later.ensures.later true tells in
    clash

pub returns-clause-clash : goal.returns-clause-clash
returns-clause-clash g c =
    let standing = g.G.ClassGraph.standing c.args.graph.now in
    let was = c.requires.behind.0 in
    let behind = c.requires.behind.1 in
    let led = are_led was standing c.args.unions.now c.args.earlier c.args.self.now behind in
    let looks = c.in_ok-after_unions.ensures.looks (world_of was) behind.serves.watched led in
    let tells = subst (λ (ds : List ℕ). IsTrue false ↔ (Same standing 0 1 ⊎ IsFoundClash standing c.args.differs.now ds)) c.deref.ensures.value c.if-has_clash.ensures in
    let clash = clash_is was standing c.args.unions.now c.args.earlier c.args.self.now behind c.args.differs.now c.requires.differs c.after_unions.new.literals.items c.after_unions.new.differs.items c.push_later.new.found.items
    looks c.in_ok-push_later.ensures.gathers c.in_ok-push_later.ensures.later false tells in
    clash

-- ---- where nothing clashes

pub returns-clause-serves : goal.returns-clause-serves
returns-clause-serves g c = λ none was behind.
    let standing = g.G.ClassGraph.standing c.args.graph.now in
    let led = are_led was standing c.args.unions.now c.args.earlier c.args.self.now behind in
    let watched = c.in_ok-after_unions.ensures.watched (world_of was) behind.serves.watched led in
    let first = after_serves was standing c.args.unions.now c.args.earlier c.args.self.now behind c.args.differs.now c.requires.differs c.after_unions.new.self watched c.in_ok-after_unions.ensures.items in
    let over = c.in_ok-add_differences.ensures.serves was.ends was.bound first in
    over_serves (service standing was.ends was.bound) c.args.differs.now c.add_differences.new.self c.requires.differs over

pub returns-clause-finds : goal.returns-clause-finds
returns-clause-finds g c = λ none was behind.
    let standing = g.G.ClassGraph.standing c.args.graph.now in
    let led = are_led was standing c.args.unions.now c.args.earlier c.args.self.now behind in
    let watched = c.in_ok-after_unions.ensures.watched (world_of was) behind.serves.watched led in
    let first = after_serves was standing c.args.unions.now c.args.earlier c.args.self.now behind c.args.differs.now c.requires.differs c.after_unions.new.self watched c.in_ok-after_unions.ensures.items in
    let over = c.in_ok-add_differences.ensures.serves was.ends was.bound first in
    let looks = c.in_ok-after_unions.ensures.looks (world_of was) behind.serves.watched led in
    let tells = subst (λ (ds : List ℕ). IsTrue false ↔ (Same standing 0 1 ⊎ IsFoundClash standing c.args.differs.now ds)) c.deref.ensures.value c.if-has_clash.ensures in
    let clash = clash_is was standing c.args.unions.now c.args.earlier c.args.self.now behind c.args.differs.now c.requires.differs c.after_unions.new.literals.items c.after_unions.new.differs.items c.push_later.new.found.items
    looks c.in_ok-push_later.ensures.gathers c.in_ok-push_later.ensures.later false tells in
    let chains = c.add_differences.new.self.literals.chains in
    let covers = covers_after (world_over (service standing was.ends was.bound) c.args.differs.now) standing [] was.ends chains (no_unions standing) over.watched.literals in
    let between = subst (λ (ds : List ℕ). HasBetween standing c.args.differs.now ds was.ends c.gather_between.new.literals.items) c.deref-2.ensures.value
    (c.in_ok-gather_between.ensures.between was.ends covers) in
    finds_changes was standing c.args.unions.now c.args.earlier c.args.self.now behind c.args.differs.now c.requires.differs c.after_unions.new.literals.items c.after_unions.new.differs.items c.push_later.new.found.items
    looks c.in_ok-push_later.ensures.gathers c.in_ok-push_later.ensures.later c.gather_between.new.literals.items c.in_ok-gather_between.ensures.gathers between (λ has. false_no (clash.1 has))

pub returns-clause-within : goal.returns-clause-within
returns-clause-within g c = λ was behind all.
    let standing = g.G.ClassGraph.standing c.args.graph.now in
    let led = are_led was standing c.args.unions.now c.args.earlier c.args.self.now behind in
    let watched = c.in_ok-after_unions.ensures.watched (world_of was) behind.serves.watched led in
    let first = after_serves was standing c.args.unions.now c.args.earlier c.args.self.now behind c.args.differs.now c.requires.differs c.after_unions.new.self watched c.in_ok-after_unions.ensures.items in
    let over = c.in_ok-add_differences.ensures.serves was.ends was.bound first in
    c.in_ok-gather_between.ensures.below was.bound over.literals (c.in_ok-after_unions.ensures.literals_below was.bound behind.serves.literals all)
