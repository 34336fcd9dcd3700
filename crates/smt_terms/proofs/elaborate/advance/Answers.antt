use Rattle.smt_terms.specs.declared.walked.Walked.TheVariants.{Universal}
use Rattle.smt_terms.proofs.Walks.{advances_after, stands_so}
use Rattle.smt_terms.proofs.elaborate.advance.Goals as goal

pub returns-in-Ok-Universal : goal.returns-in-Ok-Universal
returns-in-Ok-Universal c = advances_after c.args.context.now.tree.now c.args.context.now.state.now c.args.context.now.inside c.args.missing c.args.frames.now.items c.args.bound.now c.walk.new.frames.items c.walk.new.bound c.pass_forall.new.frames.items c.pass_forall.new.bound c.args.draft.now c.walk.new.draft c.pass_forall.new.draft c.args.i c.in-Ok-Universal.at c.in-Ok-Universal.after c.pass_forall.result
    (stands_so c.args.context.now.tree.now c.args.context.now.state.now c.args.context.now.inside c.args.missing c.args.frames.now.items c.args.bound.now c.walk.new.frames.items c.walk.new.bound c.args.draft.now c.walk.new.draft c.args.i c.in-Ok-Universal.field-0 (Universal c.in-Ok-Universal.at c.in-Ok-Universal.after) c.in-Ok-Universal.field-0-is c.in-Ok-Universal.ensures)
    (c.pass_forall.ensures c.args.missing)
