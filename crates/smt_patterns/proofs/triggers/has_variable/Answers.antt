use Rattle.std.proofs.Common.{sym, ◌∙◌}
use Rattle.smt_patterns.specs.Patterns.{is_variable}
use Rattle.smt_patterns.proofs.PatternLemmas.{any_here, any_next}
use Rattle.smt_patterns.proofs.triggers.has_variable.Goals as goal

pub returns-then-is_variable_row : goal.returns-then-is_variable_row
returns-then-is_variable_row c = sym (any_here (is_variable c.args.index) c.args.trigger.now.rows c.loop-i.i c.get.result.now c.get.ensures (sym c.is_variable_row.ensures ∙ c.if-is_variable_row.true)) ∙ c.loop-i.invariant

pub loop-i-preserved : goal.loop-i-preserved
loop-i-preserved c = any_next (is_variable c.args.index) c.args.trigger.now.rows c.loop-i.i c.get.result.now c.get.ensures (sym c.is_variable_row.ensures ∙ c.if-is_variable_row.false) ∙ c.loop-i.invariant
