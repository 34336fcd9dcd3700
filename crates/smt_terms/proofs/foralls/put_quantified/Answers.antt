use Rattle.std.proofs.Common.{true, ap, sym, ◌∙◌, List}
use Rattle.std.proofs.lemmas.Result.{err_from_is_err_and}
use Rattle.smt_names.specs.declared.bound.Bound.{Bound}
use Rattle.smt_terms.specs.Triggers.{quantified_inside}
use Rattle.smt_terms.specs.Bodies.{attributes_at}
use Rattle.smt_terms.specs.Cursor.{trees_from}
use Rattle.smt_terms.specs.Machine.{scope_of}
use Rattle.smt_terms.proofs.CheckLemmas.{refuses_all}
use Rattle.smt_terms.proofs.TriggerLemmas.{unbound}
use Rattle.smt_terms.proofs.foralls.put_quantified.Goals as goal

pub returns-in_err-value-clause-value : goal.returns-in_err-value-clause-value
returns-in_err-value-clause-value c =
    let p = err_from_is_err_and c.from_residual-in_err-value.result c.from_residual-in_err-value.ensures.1 in rw (p.1, p.2)
    (refuses_all c.in_err-value.field-0.0 _ _
    (λ fault e. ap (λ (b : List Bound). quantified_inside c.args.heading.paren c.args.heading.head (scope_of c.args.context.now.state.now (record { in_forall = true; in_definition = c.args.context.now.inside.in_definition }) b) c.args.variables.now (trees_from c.args.context.now.tree.now c.args.body.now.at) (attributes_at c.args.context.now.tree.now c.args.body.now.patterns.items) c.args.draft.now) (sym c.in_ok-bind_all.ensures) ∙ e)
    c.in_err-value.ensures.value)

pub returns-clause-value : goal.returns-clause-value
returns-clause-value c =
    ap (λ (b : List Bound). quantified_inside c.args.heading.paren c.args.heading.head (scope_of c.args.context.now.state.now (record { in_forall = true; in_definition = c.args.context.now.inside.in_definition }) b) c.args.variables.now (trees_from c.args.context.now.tree.now c.args.body.now.at) (attributes_at c.args.context.now.tree.now c.args.body.now.patterns.items) c.args.draft.now) (sym c.in_ok-bind_all.ensures)
    ∙ c.in_ok-value.ensures.value

pub returns-clause-bound : goal.returns-clause-bound
returns-clause-bound c = unbound c.args.bound.now c.args.variables.now c.bind_all.new.bound c.put_inside.new.bound c.truncate.new.self c.len-outside.result c.len-outside.ensures c.in_ok-bind_all.ensures c.in_ok-value.ensures.bound c.truncate.ensures
