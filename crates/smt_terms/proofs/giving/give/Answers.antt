use Rattle.std.proofs.Common.{◌∙◌, arith}
use Rattle.smt_terms.proofs.Machines.{gives_at}
use Rattle.smt_terms.proofs.giving.give.Goals as goal

pub returns-in-Ok-At : goal.returns-in-Ok-At
returns-in-Ok-At c state inside missing draft =
    let g = gives_at c.args.tree.now c.loop-memory.frames.items c.give_one.new.frames.items c.loop-memory.bound c.give_one.new.bound c.loop-memory.i c.in-Ok-At.next c.loop-memory.at c.args.arg.value c.in-Ok-At.field-0 c.in-Ok-At.field-0-is c.in-Ok-At.ensures state inside missing draft in
    (c.loop-memory.invariant.same state inside draft ∙ g.0, omega (arith, g.1, c.loop-memory.invariant.less), g.2 ∙ c.loop-memory.invariant.base)
