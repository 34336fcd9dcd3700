use Rattle.std.proofs.Common.{refl, sym, subst, arith}
use Rattle.formula_assert.specs.Assertions.{held_of}
use Rattle.search_check.specs.declared.aside.Aside.{Aside}
use Rattle.search_check.specs.Round.{LivesAreAsserted}
use Rattle.search_check.proofs.HalfLemmas.{calm_here}
use Rattle.search_check.proofs.LivesLemmas.{asserts_lives}
use Rattle.search_check.proofs.UnderWayLemmas.{split_asserted}
use Rattle.search_check.proofs.search.Search.split.Goals as goal

pub assert-requires-clause-calm : goal.assert-requires-clause-calm
assert-requires-clause-calm c = calm_here c.args.stack.now c.args.self.now.struck.items c.open.new.self
    (c.in_ok-open.ensures.values c.args.stack.now c.args.self.now.struck.items c.requires.values) c.requires.step.0

pub assert-requires-clause-values : goal.assert-requires-clause-values
assert-requires-clause-values c = (
  c.args.self.now.struck.items,
  c.in_ok-open.ensures.values c.args.stack.now c.args.self.now.struck.items c.requires.values,
)

pub returns-clause-ok : goal.returns-clause-ok
returns-clause-ok c rounds start searching =
    let aside : Aside = record {
      node = c.args.node;
      place = c.args.place;
      part = c.args.part;
      mark = c.mark-mark.result;
      struck = c.len-struck.result;
      done = c.len-done.result;
      spent = c.len-spent.result;
    } in
    split_asserted c.over_law.ensures.over c.over_law.ensures.both rounds start c.args.stack.now
    c.args.self.now.asides.items c.args.self.now.struck.items c.args.self.now.done c.args.self.now.spent.items c.args.self.now.values searching c.assert.new.stack c.args.part c.assert.new.self
    c.assert.ensures.more c.in_ok-assert.ensures.asserts
    (c.in_ok-assert.ensures.values c.args.self.now.struck.items
    (c.in_ok-open.ensures.values c.args.stack.now c.args.self.now.struck.items c.requires.values))
    (subst (λ formulas. LivesAreAsserted formulas (held_of c.assert.new.stack)) (sym c.assert.ensures.more.formulas_are)
    (asserts_lives c.args.stack.now.formulas c.in_ok-assert.ensures.asserts searching.lives))
    aside c.push_aside.new.asides.items refl c.requires.step c.mark-mark.ensures
    (omega (arith, c.args.self.now.struck.ok, c.len-struck.ensures)) (sym c.len-done.ensures)
    (omega (arith, c.args.self.now.spent.ok, c.len-spent.ensures)) c.requires.stands c.in_ok-push_aside.ensures.ok
    (c.in_ok-assert.ensures.level c.args.self.now.values c.in_ok-open.ensures.over)
