use Rattle.std.proofs.Common.{sym, subst}
use Rattle.formula_assert.specs.Assertions.{held_of}
use Rattle.search_check.specs.Round.{LivesAreAsserted}
use Rattle.search_check.proofs.HalfLemmas.{calm_here}
use Rattle.search_check.proofs.LivesLemmas.{asserts_lives}
use Rattle.search_check.proofs.UnderWayLemmas.{unit_asserted}
use Rattle.search_check.proofs.search.Search.assert.Goals as goal

pub assert-requires-clause-calm : goal.assert-requires-clause-calm
assert-requires-clause-calm c = calm_here c.args.stack.now c.args.self.now.struck.items c.args.self.now.values
    c.requires.values c.requires.step.0

pub returns-clause-ok : goal.returns-clause-ok
returns-clause-ok c rounds start searching =
    unit_asserted c.over_law.ensures.over c.over_law.ensures.both rounds start c.args.stack.now
    c.args.self.now.asides.items c.args.self.now.struck.items c.args.self.now.done c.args.self.now.spent.items c.args.self.now.values searching c.assert.new.stack c.args.part c.assert.new.self
    c.assert.ensures.more c.in_ok-assert.ensures.asserts
    (c.in_ok-assert.ensures.values c.args.self.now.struck.items c.requires.values)
    (subst (λ formulas. LivesAreAsserted formulas (held_of c.assert.new.stack)) (sym c.assert.ensures.more.formulas_are)
    (asserts_lives c.args.stack.now.formulas c.in_ok-assert.ensures.asserts searching.lives))
    c.in_ok-assert.ensures.level c.requires.step
