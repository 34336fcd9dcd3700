use Rattle.std.proofs.Common.{ℕ, ◌<◌, length, sym, subst}
use Rattle.search_values.specs.Kept.{given_of}
use Rattle.search_branch.specs.declared.step.Step.TheVariants.{Assert, Split}
use Rattle.search_branch.specs.Steps.{IsStep}
use Rattle.search_branch.proofs.NextLemmas.{lost_is, assert_is, split_is, way_out_is, unit_within, split_within}
use Rattle.search_branch.proofs.next.next_of.Goals as goal

pub returns-in-Some-clause-step : goal.returns-in-Some-clause-step
returns-in-Some-clause-step c formulas branch table is no_clash =
    lost_is formulas branch (given_of c.args.values.now) table is c.in-Some._stuck c.in-Some.ensures.some

pub returns-in-Some-first_unit-clause-step : goal.returns-in-Some-first_unit-clause-step
returns-in-Some-first_unit-clause-step c formulas branch table is no_clash =
    subst (λ (part : ℕ). IsStep formulas branch (Assert part)) (sym c.part-part.ensures)
    (assert_is formulas branch (given_of c.args.values.now) table is no_clash c.in_default.ensures.none
    c.in-Some-first_unit.unit.node c.in-Some-first_unit.unit.place c.in-Some-first_unit.ensures.some)

pub returns-in-Some-first_unit-clause-within : goal.returns-in-Some-first_unit-clause-within
returns-in-Some-first_unit-clause-within c formulas branch table is =
    subst (λ (part : ℕ). part < length formulas.nodes) (sym c.part-part.ensures)
    (unit_within formulas branch (given_of c.args.values.now) table is
    c.in-Some-first_unit.unit.node c.in-Some-first_unit.unit.place c.in-Some-first_unit.ensures.some)

pub returns-in-Some-first_open-clause-step : goal.returns-in-Some-first_open-clause-step
returns-in-Some-first_open-clause-step c formulas branch table is no_clash =
    let split = c.in-Some-first_open.split in
    subst (λ (part : ℕ). IsStep formulas branch (Split split.node split.place part))
    (sym c.part-part-in-Some-first_open.ensures)
    (split_is formulas branch (given_of c.args.values.now) table is no_clash c.in_default.ensures.none
    c.in_default-first_unit.ensures.none split.node split.place c.in-Some-first_open.ensures.some)

pub returns-in-Some-first_open-clause-within : goal.returns-in-Some-first_open-clause-within
returns-in-Some-first_open-clause-within c formulas branch table is =
    let split = c.in-Some-first_open.split in
    subst (λ (part : ℕ). part < length formulas.nodes) (sym c.part-part-in-Some-first_open.ensures)
    (split_within formulas branch (given_of c.args.values.now) table is split.node split.place
    c.in-Some-first_open.ensures.some)

pub returns-in-None-clause-step : goal.returns-in-None-clause-step
returns-in-None-clause-step c formulas branch table is no_clash =
    way_out_is formulas branch (given_of c.args.values.now) table is no_clash c.in_default.ensures.none
    c.in_default-first_unit.ensures.none c.in-None.ensures.settled
