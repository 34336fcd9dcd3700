use Rattle.smt_terms.proofs.Walks.{at_start, base_at_start}
use Rattle.smt_terms.proofs.elaborate.elaborate_term.Goals as goal

pub loop-stop-init : goal.loop-stop-init
loop-stop-init c = record {
  same = at_start c.args.context.now.tree.now c.args.context.now.state.now c.args.context.now.inside c.args.missing c.args.bound.now c.new-frames.result.items c.args.at c.args.draft.now c.new-frames.ensures.items;
  base = base_at_start c.new-frames.result.items c.args.bound.now c.new-frames.ensures.items;
}
