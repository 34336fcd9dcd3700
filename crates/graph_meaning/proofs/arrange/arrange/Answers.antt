use Rattle.std.proofs.Common.{ℕ, List, Contains, sym, subst}
use Rattle.std.proofs.lemmas.List.Sorted.{Contains-permutation, IsPermutation-sym}
use Rattle.graph_meaning.specs.Match.{InOrder}
use Rattle.graph_meaning.proofs.OrderLemmas.{order_of_dedup, kept_by_dedup}
use Rattle.graph_meaning.proofs.arrange.arrange.Goals as goal

pub returns-clause-in_order : goal.returns-clause-in_order
returns-clause-in_order c = subst InOrder (sym c.keep_one.ensures) (order_of_dedup c.sort.new.lists.items c.in_ok-sort.ensures.sorted)

pub returns-clause-same : goal.returns-clause-same
returns-clause-same c =
    let old = c.args.lists.now.items in
    let sorted = c.sort.new.lists.items in
    λ list. let kept = kept_by_dedup sorted list in (
      (λ h. Contains-permutation sorted old list (IsPermutation-sym old sorted c.in_ok-sort.ensures.moved) (kept.0 (subst (λ (xs : List (List ℕ)). Contains xs list) c.keep_one.ensures h))),
      (λ h. subst (λ (xs : List (List ℕ)). Contains xs list) (sym c.keep_one.ensures) (kept.1 (Contains-permutation old sorted list c.in_ok-sort.ensures.moved h))),
    )
