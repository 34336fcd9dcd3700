use Rattle.std.proofs.Common.{◌+◌, refl, sym, ap, ◌∙◌}
use Rattle.std.proofs.lemmas.Result.{err_from_is_err_and}
use Rattle.smt_text.specs.declared.token.Place.{Place}
use Rattle.smt_terms.specs.Machine.{given_to}
use Rattle.smt_terms.proofs.Walks.{token_refused, token_gives, token_less, gave, steps_on}
use Rattle.smt_terms.proofs.walking.pass_token.Goals as goal

pub returns-in_err-value : goal.returns-in_err-value
returns-in_err-value c missing =
    let p = err_from_is_err_and c.from_residual.result c.from_residual.ensures.1 in rw (p.1, p.2)
    (token_refused c.args.context.now.tree.now c.args.context.now.state.now c.args.context.now.inside missing c.args.frames.now.items c.args.bound.now c.args.draft.now c.args.i c.in_err-value.field-0.0 c.requires c.in_err-value.ensures)

pub returns-in-Ok : goal.returns-in-Ok
returns-in-Ok c missing =
    steps_on c.args.context.now.tree.now c.args.context.now.state.now c.args.context.now.inside missing c.args.frames.now.items c.args.bound.now c.give.new.frames.items c.give.new.bound c.args.draft.now c.put_token.new.draft c.args.i c.in-Ok.next c.step_to.result c.step_to.ensures
    (gave c.args.context.now.tree.now c.args.context.now.state.now c.args.context.now.inside missing c.args.frames.now.items c.args.bound.now c.give.new.frames.items c.give.new.bound c.args.draft.now c.put_token.new.draft c.args.i 0 (c.args.i + 1) c.place_at-place.result c.in_ok-value.value c.in-Ok.next c.args.frames.now.items
    (token_less c.args.context.now.tree.now c.args.context.now.state.now c.args.context.now.inside missing c.args.frames.now.items c.args.bound.now c.args.draft.now c.args.i c.requires) refl
    (token_gives c.args.context.now.tree.now c.args.context.now.state.now c.args.context.now.inside missing c.args.frames.now.items c.args.bound.now c.args.draft.now c.args.i c.in_ok-value.value c.put_token.new.draft c.requires c.in_ok-value.ensures
    ∙ ap (λ (at : Place). given_to c.args.context.now.tree.now c.args.context.now.state.now c.args.context.now.inside c.args.frames.now.items c.args.bound.now (c.args.i + 1) at c.in_ok-value.value c.put_token.new.draft) (sym c.place_at-place.ensures))
    c.in-Ok.ensures)
