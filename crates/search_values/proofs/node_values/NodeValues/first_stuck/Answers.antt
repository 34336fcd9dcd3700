use Rattle.std.proofs.Common.{ℕ, subst}
use Rattle.search_values.specs.History.{now}
use Rattle.search_values.specs.Given.{IsStuck}
use Rattle.search_values.specs.Kept.{Kept, given_of}
use Rattle.search_values.proofs.FirstLemmas.{no_stuck}
use Rattle.search_values.proofs.UnitLemmas.{stuck_by}
use Rattle.search_values.proofs.node_values.NodeValues.first_stuck.Goals as goal

pub returns-in-Some-clause-some : goal.returns-in-Some-clause-some
returns-in-Some-clause-some c =
    let K : Kept → Type 0 = λ k. IsStuck (given_of k) c.in-Some.node in
    let right = c.self.invariant.right in
    subst K c.self.view_is (stuck_by c.joining_law.ensures c.self.inside.wiring (now c.self.inside.noted) right.wired right.are right.settled c.in-Some.node c.in-Some.ensures.passes)

pub returns-in-None-clause-none : goal.returns-in-None-clause-none
returns-in-None-clause-none c =
    let K : Kept → Type 0 = λ k. (n : ℕ) → IsStuck (given_of k) n → ⊥ in
    subst K c.self.view_is (no_stuck c.joining_law.ensures c.self.inside.wiring (now c.self.inside.noted) c.self.invariant.right c.in-None.ensures)
