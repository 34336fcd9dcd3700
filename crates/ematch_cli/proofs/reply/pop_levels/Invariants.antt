use Rattle.std.proofs.Common.{◌≡◌, ◌-◌}
use Rattle.formula_assert.specs.Assertions.{popped}
use Rattle.ematch_cli.specs.Run.{repeated}
use Rattle.ematch_cli.proofs.reply.pop_levels.Given as goal

abbrev pub invariant-loop-i : goal.invariant-loop-i
invariant-loop-i l = repeated (l.count - l._i) popped l.stack ≡ repeated l.count popped l.fn.stack
