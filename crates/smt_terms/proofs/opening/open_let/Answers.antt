use Rattle.std.proofs.Common.{◌+◌, sym, ap}
use Rattle.std.proofs.lemmas.Result.{err_from_is_err_and}
use Rattle.smt_terms.proofs.opening.open_let.Goals as goal
use Rattle.smt_text.specs.declared.token.Place.{Place}
use Rattle.smt_terms.specs.Cursor.{word_at, trees_from}
use Rattle.smt_terms.specs.Machine.{scope_of}
use Rattle.smt_terms.specs.Terms.{let_value}
use Rattle.smt_terms.proofs.CheckLemmas.{refuses_as}
use Rattle.smt_terms.proofs.Openings.{let_refused_number, let_refused_bindings, opens_let}

pub returns-in_err-check_exactly : goal.returns-in_err-check_exactly
returns-in_err-check_exactly c state inside =
    let p = err_from_is_err_and c.from_residual.result c.from_residual.ensures.1 in rw (p.1, p.2)
    (let parts = trees_from c.args.tree.now (c.args.i + 2) in
    let scope = scope_of state inside c.args.bound.now in
    refuses_as c.in_err-check_exactly.field-0.0 (let_value c.place_at-head.result parts scope) (let_value (word_at c.args.tree.now (c.args.i + 1)).place parts scope)
    (λ draft. ap (λ (p : Place). let_value p parts scope draft) (sym c.place_at-head.ensures))
    (let_refused_number c.in_err-check_exactly.field-0.0 c.place_at-head.result parts scope c.in_err-check_exactly.ensures))

pub returns-in_err-body : goal.returns-in_err-body
returns-in_err-body c state inside =
    let p = err_from_is_err_and c.from_residual-in_err-body.result c.from_residual-in_err-body.ensures.1 in rw (p.1, p.2)
    (let parts = trees_from c.args.tree.now (c.args.i + 2) in
    let scope = scope_of state inside c.args.bound.now in
    refuses_as c.in_err-body.field-0.0 (let_value c.place_at-head.result parts scope) (let_value (word_at c.args.tree.now (c.args.i + 1)).place parts scope)
    (λ draft. ap (λ (p : Place). let_value p parts scope draft) (sym c.place_at-head.ensures))
    (let_refused_bindings c.in_err-body.field-0.0 c.place_at-head.result parts scope c.in_ok-check_exactly.ensures c.in_err-body.ensures))

pub returns-in-Ok : goal.returns-in-Ok
returns-in-Ok c state inside =
    opens_let c.args.tree.now c.args.i c.args.after state inside c.args.frames.now.items c.enter_binding.new.frames.items c.args.bound.now c.place_at.result c.place_at-head.result c.place_at.ensures c.place_at-head.ensures
    c.in_ok-body.body c.in-Ok.at c.enter_binding.new.bound c.new-none.result.items c.new-none.ensures.items c.in_ok-check_exactly.ensures c.in_ok-body.ensures c.in-Ok.ensures
