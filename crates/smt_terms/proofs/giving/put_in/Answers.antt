use Rattle.std.proofs.Common.{refl, Ok, ◌∙◌}
use Rattle.smt_terms.specs.declared.work.Work.TheVariants.{Apply, Let, Pass}
use Rattle.smt_terms.specs.declared.given.Given.TheVariants.{At, Outer}
use Rattle.smt_terms.proofs.Machines.{puts_pass, puts_apply, puts_let, by_work}
use Rattle.smt_terms.proofs.giving.put_in.Goals as goal

pub returns-in-Pass : goal.returns-in-Pass
returns-in-Pass c = by_work c.args.tree.now c.args.frames.now.items c.args.frames.now.items c.args.bound.now c.truncate.new.self c.args.frame (Pass c.in-Pass.outside) c.args.next c.args.arg.place c.args.arg.value (Ok (Outer c.args.frame.paren c.args.frame.after)) c.in-Pass.is
    (puts_pass c.args.tree.now c.args.frames.now.items c.args.frames.now.items c.args.bound.now c.args.frame.paren c.args.frame.head c.args.frame.after c.args.next c.args.arg.place c.args.arg.value
    c.in-Pass.outside c.truncate.new.self c.truncate.ensures refl)

pub returns-in_ok-push-in-Apply-2 : goal.returns-in_ok-push-in-Apply-2
returns-in_ok-push-in-Apply-2 c = by_work c.args.tree.now c.args.frames.now.items c.push-in-Apply.new.self.items c.args.bound.now c.args.bound.now c.args.frame (Apply c.in-Apply.called c.in-Apply.head c.in-Apply.args) c.args.next c.args.arg.place c.args.arg.value (Ok (At c.args.next)) c.in-Apply.is
    (puts_apply c.args.tree.now c.args.frames.now.items c.push-in-Apply.new.self.items c.args.bound.now c.args.frame.paren c.args.frame.head c.args.frame.after c.args.next c.args.arg.place c.args.arg.value
    c.in-Apply.called c.in-Apply.head c.in-Apply.args c.push.new.self c.in_ok-push-in-Apply.ensures.items c.in_ok-push-in-Apply-2.ensures.items)

pub returns-in_ok-i-in-Let : goal.returns-in_ok-i-in-Let
returns-in_ok-i-in-Let c = by_work c.args.tree.now c.args.frames.now.items c.enter_binding.new.frames.items c.args.bound.now c.enter_binding.new.bound c.args.frame (Let c.in-Let.name c.in-Let.done c.in-Let.further c.in-Let.body) c.args.next c.args.arg.place c.args.arg.value (Ok (At c.in_ok-i-in-Let.i)) c.in-Let.is
    (puts_let c.args.tree.now c.args.frames.now.items c.enter_binding.new.frames.items c.args.bound.now c.args.frame.paren c.args.frame.head c.args.frame.after c.args.next c.args.arg.place c.args.arg.value
    c.enter_binding.new.bound c.in-Let.name c.in-Let.further c.in-Let.body c.in_ok-i-in-Let.i c.in-Let.done c.push-in-Let.new.self c.in_ok-name-in-Let.name
    (c.in_ok-name-in-Let.ensures ∙ c.text_at.ensures) c.in_ok-push-in-Let.ensures.items c.in_ok-i-in-Let.ensures)
