use Rattle.std.proofs.lemmas.Result.{err_from_is_err_and}
use Rattle.smt_terms.proofs.Walks.{list_refused, list_steps}
use Rattle.smt_terms.proofs.walking.enter_list.Goals as goal

pub returns-in_err-opened : goal.returns-in_err-opened
returns-in_err-opened c missing draft =
    let p = err_from_is_err_and c.from_residual.result c.from_residual.ensures.1 in rw (p.1, p.2)
    (list_refused c.args.context.now.tree.now c.args.context.now.state.now c.args.context.now.inside missing c.args.frames.now.items c.args.bound.now draft c.args.i c.args.after c.in_err-opened.field-0.0 c.requires (c.in_err-opened.ensures draft))

pub returns : goal.returns
returns c missing draft = list_steps c.args.context.now.tree.now c.args.context.now.state.now c.args.context.now.inside missing c.args.frames.now.items c.args.bound.now draft c.args.i c.args.after c.open_list.new.frames.items c.open_list.new.bound c.in_ok-opened.opened c.step_into.result c.requires c.step_into.ensures c.in_ok-opened.ensures
