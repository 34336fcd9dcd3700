use Rattle.std.proofs.Common.{◌+◌, [], sym, ap, ◌∙◌}
use Rattle.std.proofs.lemmas.Result.{err_from_is_err_and}
use Rattle.smt_text.specs.declared.token.Place.{Place}
use Rattle.smt_names.specs.Making.{then_from}
use Rattle.smt_terms.specs.Bodies.{body_at}
use Rattle.smt_terms.specs.Terms.{Body, body_of, quantified, body_forall}
use Rattle.smt_terms.specs.Cursor.{word_at, trees_from}
use Rattle.smt_terms.specs.Machine.{scope_of}
use Rattle.smt_terms.proofs.CheckLemmas.{refuses_first, makes_as}
use Rattle.smt_terms.proofs.foralls.put_body.Goals as goal

pub returns-in_err-found-clause-value : goal.returns-in_err-found-clause-value
returns-in_err-found-clause-value c =
    let p = err_from_is_err_and c.from_residual.result c.from_residual.ensures.1 in rw (p.1, p.2)
    (refuses_first c.in_err-found.field-0.0 (body_of [] (trees_from c.args.context.now.tree.now c.args.body))
    (λ (b : Body). quantified (word_at c.args.context.now.tree.now c.args.i).place (word_at c.args.context.now.tree.now (c.args.i + 1)).place (scope_of c.args.context.now.state.now c.args.context.now.inside c.args.bound.now) c.args.variables.now b) c.in_err-found.ensures c.args.draft.now)

pub returns-clause-value : goal.returns-clause-value
returns-clause-value c =
    let paren = (word_at c.args.context.now.tree.now c.args.i).place in
    let head = (word_at c.args.context.now.tree.now (c.args.i + 1)).place in
    let scope = scope_of c.args.context.now.state.now c.args.context.now.inside c.args.bound.now in
    let found = body_at c.args.context.now.tree.now c.in_ok-found.found in
    makes_as c.put_quantified.result c.args.draft.now c.put_quantified.new.draft (body_forall paren head scope c.args.variables.now (trees_from c.args.context.now.tree.now c.args.body)) (quantified c.place_at-paren.result c.place_at-head.result scope c.args.variables.now found)
    (ap (then_from (λ (b : Body). quantified paren head scope c.args.variables.now b)) (c.in_ok-found.ensures c.args.draft.now)
    ∙ ap (λ (p : Place). quantified p head scope c.args.variables.now found c.args.draft.now) (sym c.place_at-paren.ensures)
    ∙ ap (λ (p : Place). quantified c.place_at-paren.result p scope c.args.variables.now found c.args.draft.now) (sym c.place_at-head.ensures))
    c.put_quantified.ensures.value
