use Rattle.std.proofs.Common.{subst}
use Rattle.std.proofs.lemmas.Result.{err_from_is_err_and}
use Rattle.search_check.specs.UnderWay.{GoesOn, place_in}
use Rattle.search_check.proofs.StartLemmas.{keeps_start}
use Rattle.search_check.proofs.decide.search.Goals as goal

pub returns-in_err-outcome-clause-limit : goal.returns-in_err-outcome-clause-limit
returns-in_err-outcome-clause-limit g c =
    let p = err_from_is_err_and c.from_residual-in_err-outcome.result c.from_residual-in_err-outcome.ensures.1 in
    rw (p.1, p.2) (c.in_err-outcome.ensures.limit c.args.stack.now c.loop-step.invariant)

pub returns-in_err-outcome-clause-levels : goal.returns-in_err-outcome-clause-levels
returns-in_err-outcome-clause-levels g c = c.advance.ensures.levels c.args.stack.now c.loop-step.invariant

pub returns-in-Some-clause-verdict : goal.returns-in-Some-clause-verdict
returns-in-Some-clause-verdict g c =
    subst (GoesOn c.args.rounds c.args.stack.now c.advance.new.stack c.advance.new.self) c.in-Some.is
    (c.in_ok-outcome.ensures.ok c.args.stack.now c.loop-step.invariant)

pub returns-in-Some-clause-levels : goal.returns-in-Some-clause-levels
returns-in-Some-clause-levels g c = c.advance.ensures.levels c.args.stack.now c.loop-step.invariant

pub returns-clause-levels : goal.returns-clause-levels
returns-clause-levels g c = keeps_start c.over_law.ensures.both c.args.rounds c.args.stack.now
    c.loop-step.search.asides.items (place_in c.loop-step.stack c.loop-step.search) c.loop-step.invariant
