use Rattle.std.proofs.lemmas.Result.{err_from_is_err_and}
use Rattle.smt_terms.proofs.ForallLemmas.{passes_annotation, annotation_refused}
use Rattle.smt_terms.proofs.bodies.pass_annotation.Goals as goal

pub returns-in_err-check_attributes : goal.returns-in_err-check_attributes
returns-in_err-check_attributes c =
    let p = err_from_is_err_and c.from_residual.result c.from_residual.ensures.1 in rw (p.1, p.2)
    (annotation_refused c.args.tree.now c.args.patterns.now.items c.args.i c.place_at-head.result c.in_err-check_attributes.field-0.0 c.requires c.place_at-head.ensures c.in_err-check_attributes.ensures)

pub returns : goal.returns
returns c draft = passes_annotation c.args.tree.now c.args.patterns.now.items c.gather.new.patterns.items c.args.i c.behind_one.result c.place_at-head.result draft c.requires c.place_at-head.ensures (c.in_ok-check_attributes.ensures draft) c.behind_one.ensures c.in_ok-gather.ensures
