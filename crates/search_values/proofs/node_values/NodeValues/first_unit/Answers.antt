use Rattle.std.proofs.Common.{ℕ, subst}
use Rattle.search_values.specs.History.{now}
use Rattle.search_values.specs.Given.{IsFirstUnit, IsUnit}
use Rattle.search_values.specs.Kept.{Kept, given_of}
use Rattle.search_values.proofs.FirstLemmas.{first_unit_is, no_unit}
use Rattle.search_values.proofs.node_values.NodeValues.first_unit.Goals as goal

pub returns-in-Some-clause-some : goal.returns-in-Some-clause-some
returns-in-Some-clause-some c =
    let K : Kept → Type 0 = λ k. IsFirstUnit (given_of k) c.in-Some.node c.first_left-place.result in
    subst K c.self.view_is (first_unit_is c.joining_law.ensures c.self.inside.wiring (now c.self.inside.noted) c.self.invariant.right c.in-Some.node c.first_left-place.result c.in-Some.ensures c.first_left-place.ensures.within c.first_left-place.ensures.left)

pub returns-in-None-clause-none : goal.returns-in-None-clause-none
returns-in-None-clause-none c =
    let K : Kept → Type 0 = λ k. (n i : ℕ) → IsUnit (given_of k) n i → ⊥ in
    subst K c.self.view_is (no_unit c.joining_law.ensures c.self.inside.wiring (now c.self.inside.noted) c.self.invariant.right c.in-None.ensures)
