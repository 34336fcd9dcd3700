use Rattle.std.proofs.Common.{refl}
use Rattle.smt_terms.proofs.Machines.{gives_whole, gives_in, emptied}
use Rattle.smt_terms.proofs.giving.give_one.Goals as goal

pub returns-in-None : goal.returns-in-None
returns-in-None c = gives_whole c.args.tree.now c.args.frames.now.items c.pop.new.self.items c.args.bound.now c.args.bound.now c.args.next c.args.arg.place c.args.arg.value
    (emptied c.args.frames.now.items c.pop.new.self.items _ c.in-None.ensures.cases.0 c.in-None.ensures.rest c.in-None.ensures.items) refl

pub returns-in-Ok : goal.returns-in-Ok
returns-in-Ok c = gives_in c.args.tree.now c.args.frames.now.items c.pop.new.self.items c.put_in.new.frames.items c.args.bound.now c.put_in.new.bound c.in-Some.frame c.args.next c.args.arg.place c.args.arg.value c.in-Ok.given
    c.in-Some.ensures.items c.in-Ok.ensures
