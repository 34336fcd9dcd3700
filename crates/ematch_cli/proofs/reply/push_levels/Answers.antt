use Rattle.std.proofs.Common.{arith}
use Rattle.formula_assert.specs.Assertions.{pushed}
use Rattle.ematch_cli.proofs.Steps.{repeated_step}
use Rattle.ematch_cli.proofs.reply.push_levels.Goals as goal

pub loop-i-preserved : goal.loop-i-preserved
loop-i-preserved c = repeated_step c.args.count c.loop-i._i pushed c.loop-i.stack c.push.new.self _ (omega arith) c.in_ok-push.ensures.ok c.loop-i.invariant
