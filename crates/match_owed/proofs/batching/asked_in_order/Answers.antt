use Rattle.std.proofs.Common.{◌≡◌, List, Contains, subst, sym}
use Rattle.std.specs.List.{dedup}
use Rattle.std.proofs.lemmas.List.Filters.{dedup_is}
use Rattle.std.proofs.lemmas.List.Kept.{Contains-dedup, Contains-from_dedup, IsStrictlySortedBy-dedup}
use Rattle.std.proofs.lemmas.List.Sorted.{Contains-permutation, IsPermutation-sym}
use Rattle.match_owed.specs.declared.asked.Asked.{Asked}
use Rattle.match_owed.specs.contracts.asked.AskedPartialEq.TheImpl.{eq-value}
use Rattle.match_owed.specs.Asked.{Ascend, AsksFor, IsBefore}
use Rattle.match_owed.proofs.BatchLemmas.{asks_from, asks_as}
use Rattle.match_owed.proofs.OrderLemmas.{asked_total, asked_ties, asked_alike, same_asked, sorted_ascend}
use Rattle.match_owed.proofs.batching.asked_in_order.Goals as goal

pub returns-clause-in_order : goal.returns-clause-in_order
returns-clause-in_order c =
    let sorted = c.sort_unstable.new.self.items in
    subst (Ascend IsBefore) (sym (dedup_is eq-value.it sorted c.dedup.new.self.items c.dedup.ensures.filtered))
    (sorted_ascend (dedup eq-value.it sorted) (IsStrictlySortedBy-dedup asked_total asked_ties sorted c.sort_unstable.ensures.sorted))

pub returns-clause-exact : goal.returns-clause-exact
returns-clause-exact c =
    let made = c.in_ok-asked.asked.items in
    let sorted = c.sort_unstable.new.self.items in
    let moved = c.sort_unstable.ensures.permutation in
    subst (AsksFor c.args.forest.now c.args.claims.now) (sym (dedup_is eq-value.it sorted c.dedup.new.self.items c.dedup.ensures.filtered))
    (asks_as c.args.forest.now c.args.claims.now made (dedup eq-value.it sorted)
    (λ one has. Contains-dedup asked_alike same_asked sorted one (Contains-permutation made sorted one moved has))
    (λ one has. Contains-permutation sorted made one (IsPermutation-sym made sorted moved) (Contains-from_dedup eq-value.it sorted one has))
    (asks_from c.args.forest.now c.args.claims.now made c.in_ok-asked.ensures))
