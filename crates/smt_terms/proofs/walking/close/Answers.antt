use Rattle.std.proofs.Common.{refl}
use Rattle.smt_names.specs.declared.refusal.Refusal.TheVariants as refusal
use Rattle.smt_terms.proofs.CheckLemmas.{refuses_at}
use Rattle.smt_terms.proofs.Machines.{emptied}
use Rattle.smt_terms.proofs.Walks.{end_none, end_refused, end_gives, end_base, end_less, gave, steps_on}
use Rattle.smt_terms.proofs.walking.close.Goals as goal

pub returns-in-None : goal.returns-in-None
returns-in-None c = refuses_at c.at.result refusal.BadForm c.args.missing c.args.missing _ c.at.ensures refl
    (end_none c.args.context.now.tree.now c.args.context.now.state.now c.args.context.now.inside c.args.missing c.args.frames.now.items c.args.bound.now c.args.draft.now c.args.i c.requires
    (emptied c.args.frames.now.items c.pop.new.self.items _ c.in-None.ensures.cases.0 c.in-None.ensures.rest c.in-None.ensures.items))

pub returns-in-Err : goal.returns-in-Err
returns-in-Err c = end_refused c.args.context.now.tree.now c.args.context.now.state.now c.args.context.now.inside c.args.missing c.args.frames.now.items c.args.bound.now c.args.draft.now c.args.i c.requires c.pop.new.self.items c.in-Some.frame c.in-Some.ensures.items c.in-Err.stop (c.in-Err.ensures c.args.context.now.inside c.args.bound.now)

pub returns : goal.returns
returns c =
    let made = c.in-Ok.ensures c.args.context.now.inside c.args.bound.now in
    steps_on c.args.context.now.tree.now c.args.context.now.state.now c.args.context.now.inside c.args.missing c.args.frames.now.items c.args.bound.now c.give.new.frames.items c.give.new.bound c.args.draft.now c.value_of_list.new.draft c.args.i c.in-Ok-give.next c.step_to.result c.step_to.ensures
    (gave c.args.context.now.tree.now c.args.context.now.state.now c.args.context.now.inside c.args.missing c.args.frames.now.items c.args.bound.now c.give.new.frames.items c.give.new.bound c.args.draft.now c.value_of_list.new.draft c.args.i 0 c.in-Some.frame.after c.in-Some.frame.paren c.in-Ok.value c.in-Ok-give.next c.pop.new.self.items
    (end_less c.args.context.now.tree.now c.args.context.now.state.now c.args.context.now.inside c.args.missing c.args.frames.now.items c.args.bound.now c.args.draft.now c.args.i c.requires c.pop.new.self.items c.in-Some.frame c.in-Some.ensures.items)
    (end_base c.args.context.now.tree.now c.args.context.now.state.now c.args.context.now.inside c.args.missing c.args.frames.now.items c.args.bound.now c.args.draft.now c.args.i c.requires c.pop.new.self.items c.in-Some.frame c.in-Some.ensures.items c.in-Ok.value c.value_of_list.new.draft made)
    (end_gives c.args.context.now.tree.now c.args.context.now.state.now c.args.context.now.inside c.args.missing c.args.frames.now.items c.args.bound.now c.args.draft.now c.args.i c.requires c.pop.new.self.items c.in-Some.frame c.in-Some.ensures.items c.in-Ok.value c.value_of_list.new.draft made)
    c.in-Ok-give.ensures)
