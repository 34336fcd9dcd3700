use Rattle.std.proofs.Common.{◌+◌, List, sym, ap, ◌∙◌}
use Rattle.std.proofs.lemmas.Result.{err_from_is_err_and}
use Rattle.smt_names.specs.declared.bound.Bound.{Bound}
use Rattle.smt_terms.specs.Terms.{bound_forall, body_forall}
use Rattle.smt_terms.specs.Cursor.{word_at, trees_from}
use Rattle.smt_terms.specs.Machine.{scope_of}
use Rattle.smt_terms.proofs.CheckLemmas.{makes_as}
use Rattle.smt_terms.proofs.ForallLemmas.{too_many, variables_unread, variables_read}
use Rattle.smt_terms.proofs.foralls.put_bound_forall.Goals as goal

pub returns-in_err-check_few_bindings-clause-value : goal.returns-in_err-check_few_bindings-clause-value
returns-in_err-check_few_bindings-clause-value c =
    let p = err_from_is_err_and c.from_residual.result c.from_residual.ensures.1 in rw (p.1, p.2)
    (too_many (word_at c.args.context.now.tree.now c.args.i).place (word_at c.args.context.now.tree.now (c.args.i + 1)).place (scope_of c.args.context.now.state.now c.args.context.now.inside c.args.bound.now) (trees_from c.args.context.now.tree.now c.args.bindings) (trees_from c.args.context.now.tree.now c.args.body) c.in_err-check_few_bindings.field-0.0 c.in_err-check_few_bindings.ensures c.args.draft.now)

pub returns-in_err-variables-clause-value : goal.returns-in_err-variables-clause-value
returns-in_err-variables-clause-value c =
    let p = err_from_is_err_and c.from_residual-in_err-variables.result c.from_residual-in_err-variables.ensures.1 in rw (p.1, p.2)
    (variables_unread (word_at c.args.context.now.tree.now c.args.i).place (word_at c.args.context.now.tree.now (c.args.i + 1)).place (scope_of c.args.context.now.state.now c.args.context.now.inside c.args.bound.now) (trees_from c.args.context.now.tree.now c.args.bindings) (trees_from c.args.context.now.tree.now c.args.body) c.in_err-variables.field-0.0 c.in_ok-check_few_bindings.ensures c.in_err-variables.ensures c.args.draft.now)

pub returns-clause-value : goal.returns-clause-value
returns-clause-value c =
    makes_as c.put_body.result c.args.draft.now c.put_body.new.draft (bound_forall (word_at c.args.context.now.tree.now c.args.i).place (word_at c.args.context.now.tree.now (c.args.i + 1)).place (scope_of c.args.context.now.state.now c.args.context.now.inside c.args.bound.now) (trees_from c.args.context.now.tree.now c.args.bindings) (trees_from c.args.context.now.tree.now c.args.body)) (body_forall (word_at c.args.context.now.tree.now c.args.i).place (word_at c.args.context.now.tree.now (c.args.i + 1)).place (scope_of c.args.context.now.state.now c.args.context.now.inside c.args.bound.now) c.as_slice.result.now (trees_from c.args.context.now.tree.now c.args.body))
    (variables_read (word_at c.args.context.now.tree.now c.args.i).place (word_at c.args.context.now.tree.now (c.args.i + 1)).place (scope_of c.args.context.now.state.now c.args.context.now.inside c.args.bound.now) (trees_from c.args.context.now.tree.now c.args.bindings) (trees_from c.args.context.now.tree.now c.args.body) c.in_ok-variables.variables.items c.args.draft.now (c.in_ok-check_few_bindings.ensures c.args.draft.now) (c.in_ok-variables.ensures c.args.draft.now)
    ∙ ap (λ (vs : List Bound). body_forall (word_at c.args.context.now.tree.now c.args.i).place (word_at c.args.context.now.tree.now (c.args.i + 1)).place (scope_of c.args.context.now.state.now c.args.context.now.inside c.args.bound.now) vs (trees_from c.args.context.now.tree.now c.args.body) c.args.draft.now) (sym c.as_slice.ensures.value)) c.put_body.ensures.value
