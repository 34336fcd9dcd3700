use Rattle.std.proofs.Common.{sym, ◌∙◌}
use Rattle.smt_patterns.proofs.PatternLemmas.{at_place}
use Rattle.smt_patterns.proofs.TriggerLemmas.{occurs_next}
use Rattle.smt_patterns.proofs.triggers.check_occurs.Goals as goal

pub loop-i-preserved : goal.loop-i-preserved
loop-i-preserved c draft =
    let stands = at_place c.args.variables.now c.loop-i.i c.loop-i-test.true in
    occurs_next c.args.at c.args.trigger.now c.args.variables.now c.loop-i.i stands.0 draft stands.1 (sym c.has_variable.ensures ∙ c.if-not-has_variable.false) ∙ c.loop-i.invariant draft
