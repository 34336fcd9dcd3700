use Rattle.std.proofs.Common.{ℕ, subst, sym}
use Rattle.search_values.specs.History.{now}
use Rattle.search_values.specs.Given.{HasYesPart, IsAssertedOr, IsOpen, IsSplit, IsStuck}
use Rattle.search_values.specs.Kept.{Kept, given_of}
use Rattle.search_values.proofs.FirstLemmas.{each_yes, no_open, open_has_left, split_is}
use Rattle.search_values.proofs.node_values.NodeValues.first_open.Goals as goal

pub first_left-place-requires-clause-some : goal.first_left-place-requires-clause-some
first_left-place-requires-clause-some c =
    let K : Kept → Type 0 = λ k. (n : ℕ) → IsStuck (given_of k) n → ⊥ in
    open_has_left c.joining_law.ensures c.self.inside.wiring (now c.self.inside.noted) c.self.invariant.right (subst K (sym c.self.view_is) c.requires) c.in-Some.node c.in-Some.ensures.passes

pub returns-in-Some-clause-some : goal.returns-in-Some-clause-some
returns-in-Some-clause-some c =
    let K : Kept → Type 0 = λ k. IsSplit (given_of k) c.in-Some.node c.first_left-place.result in
    subst K c.self.view_is (split_is c.joining_law.ensures c.self.inside.wiring (now c.self.inside.noted) c.self.invariant.right c.in-Some.node c.first_left-place.result c.in-Some.ensures c.first_left-place.ensures.within c.first_left-place.ensures.left c.first_left-place.ensures.first)

pub returns-in-None-clause-none : goal.returns-in-None-clause-none
returns-in-None-clause-none c =
    let K : Kept → Type 0 = λ k. (n : ℕ) → IsOpen (given_of k) n → ⊥ in
    subst K c.self.view_is (no_open c.joining_law.ensures c.self.inside.wiring (now c.self.inside.noted) c.self.invariant.right c.in-None.ensures)

pub returns-in-None-clause-settled : goal.returns-in-None-clause-settled
returns-in-None-clause-settled c =
    let K : Kept → Type 0 = λ k. (n : ℕ) → IsAssertedOr (given_of k) n → HasYesPart (given_of k) n in
    subst K c.self.view_is (each_yes c.joining_law.ensures c.self.inside.wiring (now c.self.inside.noted) c.self.invariant.right c.in-None.ensures)
