use Rattle.std.proofs.Common.{◌≡◌, ◌+◌, ◌<◌, ◌≤◌, sym, ap, subst, arith}
use Rattle.graph_meaning.specs.State.{GraphState}
use Rattle.formula_assert.specs.InLevel.{GrowsGraph}
use Rattle.formula_assert.proofs.BackLemmas.{EndsInLevel, step_back, all_back, no_pop, can_take_back}
use Rattle.formula_assert.proofs.take_back.take_back_to.Goals as goal

pub back-init : goal.back-init
back-init c = λ before at grows. grows

pub take_back-requires : goal.take_back-requires
take_back-requires c =
    let before = c.requires.0 in
    let more : before.done < c.back.graph.done = omega (arith, c.requires.1, c.version.ensures, c.back-test.true) in
    let step = step_back before c.back.graph (c.back.invariant before c.requires.1 c.requires.2) more in
    subst EndsInLevel (sym step.is) (can_take_back step.previous step.last step.inside)

pub back-preserved : goal.back-preserved
back-preserved c = λ before at grows.
    let more : before.done < c.back.graph.done = omega (arith, at, c.version.ensures, c.back-test.true) in
    let step = step_back before c.back.graph (c.back.invariant before at grows) more in
    subst (GrowsGraph before) (sym (c.take_back.ensures.before step.previous step.last (no_pop step.last step.inside) step.is)) step.grew

pub back-smaller : goal.back-smaller
back-smaller c =
    let before = c.requires.0 in
    let more : before.done < c.back.graph.done = omega (arith, c.requires.1, c.version.ensures, c.back-test.true) in
    let step = step_back before c.back.graph (c.back.invariant before c.requires.1 c.requires.2) more in
    let previous : c.take_back.new.self.done ≡ step.previous.done = ap (λ (g : GraphState). g.done) (c.take_back.ensures.before step.previous step.last (no_pop step.last step.inside) step.is) in
    let now : c.back.graph.done ≡ step.previous.done + 1 = ap (λ (g : GraphState). g.done) step.is in
    let smaller : c.take_back.new.self.done < c.back.graph.done = omega (arith, previous, now) in
    smaller

pub returns : goal.returns
returns c = λ before at grows.
    let few : c.back.graph.done ≤ before.done = omega (arith, at, c.version.ensures, c.back-test.false) in
    all_back before c.back.graph (c.back.invariant before at grows) few
