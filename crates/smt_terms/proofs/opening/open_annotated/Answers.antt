use Rattle.std.proofs.Common.{◌+◌, sym, ap}
use Rattle.std.proofs.lemmas.Result.{err_from_is_err_and}
use Rattle.smt_text.specs.declared.token.Place.{Place}
use Rattle.smt_terms.specs.Reading.{attributes_of}
use Rattle.smt_terms.specs.Terms.{annotated_value, value}
use Rattle.smt_terms.specs.Cursor.{word_at, trees_from}
use Rattle.smt_terms.specs.Machine.{scope_of}
use Rattle.smt_terms.proofs.CheckLemmas.{refuses_first, refuses_as}
use Rattle.smt_terms.proofs.Openings.{opens_annotated}
use Rattle.smt_terms.proofs.opening.open_annotated.Goals as goal

pub returns-in_err-check_attributes : goal.returns-in_err-check_attributes
returns-in_err-check_attributes c state inside =
    let p = err_from_is_err_and c.from_residual.result c.from_residual.ensures.1 in rw (p.1, p.2)
    (let parts = trees_from c.args.tree.now (c.args.i + 2) in
    let scope = scope_of state inside c.args.bound.now in
    refuses_as c.in_err-check_attributes.field-0.0 (annotated_value c.place_at-head.result parts scope) (annotated_value (word_at c.args.tree.now (c.args.i + 1)).place parts scope)
    (λ draft. ap (λ (p : Place). annotated_value p parts scope draft) (sym c.place_at-head.ensures))
    (refuses_first c.in_err-check_attributes.field-0.0 (attributes_of c.place_at-head.result parts) (λ _. value c.place_at-head.result scope parts) c.in_err-check_attributes.ensures))

pub returns : goal.returns
returns c state inside =
    opens_annotated c.args.tree.now c.args.i c.args.after state inside c.args.frames.now.items c.push.new.self.items c.args.bound.now c.place_at.result c.place_at-head.result c.place_at.ensures c.place_at-head.ensures
    c.len.result c.len.ensures c.in_ok-check_attributes.ensures c.in_ok-push.ensures.items
