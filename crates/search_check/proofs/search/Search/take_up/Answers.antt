use Rattle.std.proofs.Common.{arith}
use Rattle.search_check.specs.UnderWay.{place_in}
use Rattle.search_check.proofs.HalfLemmas.{halves_over}
use Rattle.search_check.proofs.ListLemmas.{no_elements}
use Rattle.search_check.proofs.ResultLemmas.{ok_then}
use Rattle.search_check.proofs.BackLemmas.{none_left, marked, opened, again_there, keeps_back}
use Rattle.search_check.proofs.search.Search.take_up.Goals as goal

pub returns-in-None-clause-ok : goal.returns-in-None-clause-ok
returns-in-None-clause-ok c rounds start searching =
    none_left rounds start c.args.self.now.asides.items (place_in c.args.stack.now c.args.self.now) searching
    (no_elements c.args.self.now.asides.items
    (omega (arith, c.args.self.now.asides.ok, c.in-None.ensures.cases.0)))
    c.requires.step

pub returns-in-None-clause-levels : goal.returns-in-None-clause-levels
returns-in-None-clause-levels c rounds start searching = halves_over c.over_law.ensures.both start searching.halves
    c.args.self.now.asides.items (place_in c.args.stack.now c.args.self.now) searching.are

pub back_to-requires : goal.back_to-requires
back_to-requires c = marked c.requires.under_way.0 c.requires.under_way.1 c.args.self.now.asides.items
    c.pop.new.self.items c.in-Some.aside (place_in c.args.stack.now c.args.self.now) c.in-Some.ensures.items
    c.requires.under_way.2

pub close-requires : goal.close-requires
close-requires c = opened c.over_law.ensures.same c.over_law.ensures.both c.requires.under_way.0
    c.requires.under_way.1 c.args.stack.now c.args.self.now.asides.items c.pop.new.self.items c.in-Some.aside
    c.args.self.now.struck.items c.args.self.now.done c.args.self.now.spent.items c.args.self.now.values
    c.in-Some.ensures.items c.requires.under_way.2

pub refute-requires : goal.refute-requires
refute-requires c = (
  c.requires.under_way.0,
  c.requires.under_way.1,
  again_there c.over_law.ensures.same c.over_law.ensures.both c.requires.under_way.0 c.requires.under_way.1
      c.args.stack.now c.args.self.now.asides.items c.pop.new.self.items c.in-Some.aside
      c.args.self.now.struck.items c.args.self.now.done c.args.self.now.spent.items c.args.self.now.values
      c.in-Some.ensures.items c.requires.under_way.2 c.back_to.new.self c.close.new.self c.back_to.ensures
      c.close.ensures.values c.close.ensures.levels c.keep_first.new.self c.truncate.new.self.items
      c.keep_first.ensures c.truncate.ensures.items c.requires.step,
)

pub returns-in-Some-clause-ok : goal.returns-in-Some-clause-ok
returns-in-Some-clause-ok c = ok_then c.refute.result c.refute.ensures.ok (λ outcome follows rounds start searching.
    follows rounds start
    (again_there c.over_law.ensures.same c.over_law.ensures.both rounds start
    c.args.stack.now c.args.self.now.asides.items c.pop.new.self.items c.in-Some.aside
    c.args.self.now.struck.items c.args.self.now.done c.args.self.now.spent.items c.args.self.now.values
    c.in-Some.ensures.items searching c.back_to.new.self c.close.new.self c.back_to.ensures c.close.ensures.values
    c.close.ensures.levels c.keep_first.new.self c.truncate.new.self.items c.keep_first.ensures
    c.truncate.ensures.items c.requires.step))

pub returns-in-Some-clause-levels : goal.returns-in-Some-clause-levels
returns-in-Some-clause-levels c rounds start searching =
    c.over_law.ensures.both start c.back_to.new.self c.refute.new.stack
    (keeps_back c.over_law.ensures.same c.over_law.ensures.both rounds start
    c.args.stack.now c.args.self.now.asides.items c.pop.new.self.items c.in-Some.aside
    c.args.self.now.struck.items c.args.self.now.done c.args.self.now.spent.items c.args.self.now.values
    c.in-Some.ensures.items searching c.back_to.new.self c.close.new.self c.back_to.ensures c.close.ensures.values
    c.close.ensures.levels)
    (c.over_law.ensures.over c.back_to.new.self c.refute.new.stack c.refute.ensures.more)
