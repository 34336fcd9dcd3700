use Rattle.std.proofs.Common.{refl}
use Rattle.std.proofs.lemmas.Result.{err_from_is_err_and}
use Rattle.smt_terms.proofs.Walks.{forall_refused, forall_gives, forall_less, gave, advances_by, gives_on_from}
use Rattle.smt_terms.proofs.elaborate.pass_forall.Goals as goal

pub returns-in_err-value : goal.returns-in_err-value
returns-in_err-value c missing =
    let p = err_from_is_err_and c.from_residual.result c.from_residual.ensures.1 in rw (p.1, p.2)
    (forall_refused c.args.context.now.tree.now c.args.context.now.state.now c.args.context.now.inside missing c.args.frames.now.items c.args.bound.now c.args.draft.now c.args.i c.args.after c.requires.list c.requires.universal c.in_err-value.field-0.0 c.in_err-value.ensures.value)

pub returns-in-Ok : goal.returns-in-Ok
returns-in-Ok c missing =
    advances_by c.args.context.now.tree.now c.args.context.now.state.now c.args.context.now.inside missing c.args.frames.now.items c.args.bound.now c.give.new.frames.items c.give.new.bound c.args.draft.now c.put_forall.new.draft c.args.i c.in-Ok.next
    (gave c.args.context.now.tree.now c.args.context.now.state.now c.args.context.now.inside missing c.args.frames.now.items c.args.bound.now c.give.new.frames.items c.give.new.bound c.args.draft.now c.put_forall.new.draft c.args.i 0 c.args.after c.place_at-place.result c.in_ok-value.value c.in-Ok.next c.args.frames.now.items
    (forall_less c.args.context.now.tree.now c.args.context.now.state.now c.args.context.now.inside missing c.args.frames.now.items c.args.bound.now c.args.draft.now c.args.i c.args.after c.requires.list) refl
    (forall_gives c.args.context.now.tree.now c.args.context.now.state.now c.args.context.now.inside missing c.args.frames.now.items c.args.bound.now c.args.draft.now c.args.i c.args.after c.requires.list c.requires.universal c.place_at-place.result c.in_ok-value.value c.put_forall.new.draft c.place_at-place.ensures c.in_ok-value.ensures.value)
    (gives_on_from c.args.context.now.tree.now c.args.frames.now.items c.put_forall.new.bound c.args.bound.now c.give.new.frames.items c.give.new.bound c.args.after c.place_at-place.result c.in_ok-value.value c.in-Ok.next c.in_ok-value.ensures.bound c.in-Ok.ensures))
