use Rattle.std.proofs.Common.{arith}
use Rattle.formula_assert.specs.Assertions.{popped}
use Rattle.ematch_cli.proofs.Steps.{repeated_step}
use Rattle.ematch_cli.proofs.reply.pop_levels.Goals as goal

pub loop-i-preserved : goal.loop-i-preserved
loop-i-preserved c = repeated_step c.args.count c.loop-i._i popped c.loop-i.stack c.pop_level.new.stack _ (omega arith) c.pop_level.ensures c.loop-i.invariant
