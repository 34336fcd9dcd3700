use Rattle.std.proofs.Common.{below_more}
use Rattle.graph_trigger.specs.Validity.{VariableStands}
use Rattle.graph_trigger.proofs.validity.have_variables.Goals as goal

pub loop-index-preserved : goal.loop-index-preserved
loop-index-preserved c = below_more (VariableStands c.args.rows.now) c.loop-index.index c.loop-index.invariant (c.variable_stands.ensures.0 c.if-not-variable_stands.false)
