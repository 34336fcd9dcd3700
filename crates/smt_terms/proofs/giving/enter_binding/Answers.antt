use Rattle.std.proofs.Common.{arith, ap, ◌∙◌, ◌++◌, List}
use Rattle.smt_names.specs.declared.bound.Bound.{Bound}
use Rattle.smt_terms.proofs.Machines.{enters_binding, enters_body}
use Rattle.smt_terms.proofs.giving.enter_binding.Goals as goal

pub returns-in_ok-push-in-Some : goal.returns-in_ok-push-in-Some
returns-in_ok-push-in-Some c = enters_binding c.args.tree.now c.args.frames.now.items c.push.new.self.items c.args.bound.now c.args.round.now.paren c.args.round.now.head c.args.round.now.after c.args.done c.args.next c.args.body
    c.in-Some.binding.name c.in-Some.binding.behind c.in_ok-push-in-Some.ensures.items c.in-Some.ensures

pub returns-in_ok-push-in-None : goal.returns-in_ok-push-in-None
returns-in_ok-push-in-None c = enters_body c.args.tree.now c.args.frames.now.items c.push-in-None.new.self.items c.args.bound.now c.args.round.now.paren c.args.round.now.head c.args.round.now.after c.args.done c.args.next c.args.body
    c.bind_all.new.bound c.len-outside.result (omega arith) (c.in_ok-bind_all-in-None.ensures ∙ ap (λ (more : List Bound). c.args.bound.now ++ more) c.as_slice.ensures.value) c.in_ok-push-in-None.ensures.items c.in-None.ensures
