use Rattle.std.proofs.Common.{◌+◌, sym, ap, ◌∙◌}
use Rattle.std.proofs.lemmas.Result.{err_from_is_err_and}
use Rattle.smt_text.specs.declared.token.Place.{Place}
use Rattle.smt_terms.specs.Reading.{exactly, some_bindings, from}
use Rattle.smt_terms.specs.Terms.{checked_forall, bound_forall}
use Rattle.smt_terms.specs.Cursor.{word_at, trees_from}
use Rattle.smt_terms.specs.Machine.{scope_of}
use Rattle.smt_terms.proofs.CheckLemmas.{refuses_as, makes_as}
use Rattle.smt_terms.proofs.ForallLemmas.{forall_number_refused, forall_bindings_refused, forall_means}
use Rattle.smt_terms.proofs.foralls.put_checked_forall.Goals as goal

pub returns-in_err-check_exactly-clause-value : goal.returns-in_err-check_exactly-clause-value
returns-in_err-check_exactly-clause-value c =
    let p = err_from_is_err_and c.from_residual.result c.from_residual.ensures.1 in rw (p.1, p.2)
    (let paren = (word_at c.args.context.now.tree.now c.args.i).place in
    let parts = trees_from c.args.context.now.tree.now c.args.parts in
    let scope = scope_of c.args.context.now.state.now c.args.context.now.inside c.args.bound.now in
    refuses_as c.in_err-check_exactly.field-0.0 (checked_forall paren c.place_at-head.result parts scope) (checked_forall paren (word_at c.args.context.now.tree.now (c.args.i + 1)).place parts scope)
    (λ draft. ap (λ (p : Place). checked_forall paren p parts scope draft) (sym c.place_at-head.ensures))
    (forall_number_refused paren c.place_at-head.result parts scope c.in_err-check_exactly.field-0.0 c.in_err-check_exactly.ensures) c.args.draft.now)

pub returns-in_err-body-clause-value : goal.returns-in_err-body-clause-value
returns-in_err-body-clause-value c =
    let p = err_from_is_err_and c.from_residual-in_err-body.result c.from_residual-in_err-body.ensures.1 in rw (p.1, p.2)
    (let paren = (word_at c.args.context.now.tree.now c.args.i).place in
    let parts = trees_from c.args.context.now.tree.now c.args.parts in
    let scope = scope_of c.args.context.now.state.now c.args.context.now.inside c.args.bound.now in
    refuses_as c.in_err-body.field-0.0 (checked_forall paren c.place_at-head.result parts scope) (checked_forall paren (word_at c.args.context.now.tree.now (c.args.i + 1)).place parts scope)
    (λ draft. ap (λ (p : Place). checked_forall paren p parts scope draft) (sym c.place_at-head.ensures))
    (forall_bindings_refused paren c.place_at-head.result parts scope c.in_err-body.field-0.0 c.in_ok-check_exactly.ensures c.in_err-body.ensures) c.args.draft.now)

pub returns-clause-value : goal.returns-clause-value
returns-clause-value c =
    let paren = (word_at c.args.context.now.tree.now c.args.i).place in
    let head = (word_at c.args.context.now.tree.now (c.args.i + 1)).place in
    let parts = trees_from c.args.context.now.tree.now c.args.parts in
    let scope = scope_of c.args.context.now.state.now c.args.context.now.inside c.args.bound.now in
    makes_as c.put_bound_forall.result c.args.draft.now c.put_bound_forall.new.draft (checked_forall paren head parts scope) (bound_forall paren head scope (trees_from c.args.context.now.tree.now (c.args.parts + 1)) (trees_from c.args.context.now.tree.now c.in_ok-body.body))
    (forall_means paren head parts scope _ (trees_from c.args.context.now.tree.now c.in_ok-body.body) c.args.draft.now
    (ap (λ (p : Place). exactly 2 p parts c.args.draft.now) (sym c.place_at-head.ensures) ∙ c.in_ok-check_exactly.ensures c.args.draft.now)
    (ap (λ (p : Place). some_bindings p parts c.args.draft.now) (sym c.place_at-head.ensures) ∙ c.in_ok-body.ensures.1 c.args.draft.now)
    (ap (from 1) c.in_ok-body.ensures.0.is))
    c.put_bound_forall.ensures.value
