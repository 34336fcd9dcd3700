use Rattle.std.proofs.Common.{◌∙◌}
use Rattle.smt_terms.specs.declared.walked.Walked.TheVariants.{Whole}
use Rattle.smt_terms.proofs.Openings.{refuses_same}
use Rattle.smt_terms.proofs.Walks.{at_start, base_at_start, stands_so}
use Rattle.smt_terms.proofs.values.value_inside.Goals as goal

pub returns-in-Err-clause-value : goal.returns-in-Err-clause-value
returns-in-Err-clause-value c = refuses_same c.in-Err.stop _ _
    (λ fault e. at_start c.args.context.now.tree.now c.args.context.now.state.now c.args.context.now.inside c.args.missing c.args.bound.now c.new-frames.result.items c.args.at c.args.draft.now c.new-frames.ensures.items ∙ e) c.in-Err.ensures

pub returns-in-Ok-Whole-clause-value : goal.returns-in-Ok-Whole-clause-value
returns-in-Ok-Whole-clause-value c =
    at_start c.args.context.now.tree.now c.args.context.now.state.now c.args.context.now.inside c.args.missing c.args.bound.now c.new-frames.result.items c.args.at c.args.draft.now c.new-frames.ensures.items
    ∙ (stands_so c.args.context.now.tree.now c.args.context.now.state.now c.args.context.now.inside c.args.missing c.new-frames.result.items c.args.bound.now c.walk.new.frames.items c.walk.new.bound c.args.draft.now c.walk.new.draft c.args.at c.in-Ok-Whole.field-0 (Whole c.in-Ok-Whole.value) c.in-Ok-Whole.field-0-is c.in-Ok-Whole.ensures).0

pub returns-in-Ok-Whole-clause-bound : goal.returns-in-Ok-Whole-clause-bound
returns-in-Ok-Whole-clause-bound c =
    (stands_so c.args.context.now.tree.now c.args.context.now.state.now c.args.context.now.inside c.args.missing c.new-frames.result.items c.args.bound.now c.walk.new.frames.items c.walk.new.bound c.args.draft.now c.walk.new.draft c.args.at c.in-Ok-Whole.field-0 (Whole c.in-Ok-Whole.value) c.in-Ok-Whole.field-0-is c.in-Ok-Whole.ensures).1
    ∙ base_at_start c.new-frames.result.items c.args.bound.now c.new-frames.ensures.items
