use Rattle.search_branch.specs.declared.step.Step.TheVariants.{Lost, Assert, Split, WayOut}
use Rattle.search_check.specs.UnderWay.{place_in}
use Rattle.search_check.proofs.StartLemmas.{keeps_on, step_there, within_there}
use Rattle.search_check.proofs.search.Search.advance.Goals as goal

pub take_up-requires-clause-step : goal.take_up-requires-clause-step
take_up-requires-clause-step g c = step_there c.args.stack.now c.args.self.now.struck.items
    c.args.self.now.values c.next_step.result Lost c.in-Lost.is c.requires.1.right c.next_step.ensures.step

pub returns-in_err-take_up-in-Lost-clause-levels :
    goal.returns-in_err-take_up-in-Lost-clause-levels
returns-in_err-take_up-in-Lost-clause-levels g c start searching =
    c.take_up.ensures.levels c.args.rounds start searching

pub returns-in_ok-take_up-in-Lost-clause-levels : goal.returns-in_ok-take_up-in-Lost-clause-levels
returns-in_ok-take_up-in-Lost-clause-levels g c start searching =
    c.take_up.ensures.levels c.args.rounds start searching

pub assert-requires-clause-stands : goal.assert-requires-clause-stands
assert-requires-clause-stands g c = within_there c.args.stack.now c.args.self.now.struck.items
    c.args.self.now.values c.next_step.result (Assert c.in-Assert.part) c.in-Assert.is c.requires.1.right
    c.next_step.ensures.within

pub assert-requires-clause-step : goal.assert-requires-clause-step
assert-requires-clause-step g c = step_there c.args.stack.now c.args.self.now.struck.items
    c.args.self.now.values c.next_step.result (Assert c.in-Assert.part) c.in-Assert.is c.requires.1.right
    c.next_step.ensures.step

pub returns-in_err-assert-in-Assert-clause-levels :
    goal.returns-in_err-assert-in-Assert-clause-levels
returns-in_err-assert-in-Assert-clause-levels g c start searching = keeps_on c.over_law.ensures.both c.args.rounds
    start c.args.self.now.asides.items (place_in c.args.stack.now c.args.self.now) c.assert.new.stack searching
    (c.over_law.ensures.over c.args.stack.now c.assert.new.stack c.assert.ensures.more)

pub returns-in_ok-assert-in-Assert-clause-levels :
    goal.returns-in_ok-assert-in-Assert-clause-levels
returns-in_ok-assert-in-Assert-clause-levels g c start searching = keeps_on c.over_law.ensures.both c.args.rounds
    start c.args.self.now.asides.items (place_in c.args.stack.now c.args.self.now) c.assert.new.stack searching
    (c.over_law.ensures.over c.args.stack.now c.assert.new.stack c.assert.ensures.more)

pub split-requires-clause-stands : goal.split-requires-clause-stands
split-requires-clause-stands g c = within_there c.args.stack.now c.args.self.now.struck.items
    c.args.self.now.values c.next_step.result (Split c.in-Split.node c.in-Split.place c.in-Split.part) c.in-Split.is
    c.requires.1.right c.next_step.ensures.within

pub split-requires-clause-step : goal.split-requires-clause-step
split-requires-clause-step g c = step_there c.args.stack.now c.args.self.now.struck.items
    c.args.self.now.values c.next_step.result (Split c.in-Split.node c.in-Split.place c.in-Split.part) c.in-Split.is
    c.requires.1.right c.next_step.ensures.step

pub returns-in_err-split-in-Split-clause-levels : goal.returns-in_err-split-in-Split-clause-levels
returns-in_err-split-in-Split-clause-levels g c start searching = keeps_on c.over_law.ensures.both c.args.rounds
    start c.args.self.now.asides.items (place_in c.args.stack.now c.args.self.now) c.split.new.stack searching
    (c.over_law.ensures.over c.args.stack.now c.split.new.stack c.split.ensures.more)

pub returns-in_ok-split-in-Split-clause-levels : goal.returns-in_ok-split-in-Split-clause-levels
returns-in_ok-split-in-Split-clause-levels g c start searching = keeps_on c.over_law.ensures.both c.args.rounds
    start c.args.self.now.asides.items (place_in c.args.stack.now c.args.self.now) c.split.new.stack searching
    (c.over_law.ensures.over c.args.stack.now c.split.new.stack c.split.ensures.more)

pub nothing_open-requires-clause-step : goal.nothing_open-requires-clause-step
nothing_open-requires-clause-step g c = step_there c.args.stack.now c.args.self.now.struck.items
    c.args.self.now.values c.next_step.result WayOut c.in-WayOut.is c.requires.1.right c.next_step.ensures.step

pub returns-in-WayOut-clause-levels : goal.returns-in-WayOut-clause-levels
returns-in-WayOut-clause-levels g c start searching = keeps_on c.over_law.ensures.both c.args.rounds
    start c.args.self.now.asides.items (place_in c.args.stack.now c.args.self.now) c.nothing_open.new.stack searching c.nothing_open.ensures.levels
