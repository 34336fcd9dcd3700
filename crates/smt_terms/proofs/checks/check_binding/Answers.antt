use Rattle.std.proofs.Common.{◌+◌, sym, ap, ◌∙◌}
use Rattle.std.proofs.lemmas.Result.{err_from_is_err_and}
use Rattle.smt_text.specs.declared.token.Place.{Place}
use Rattle.smt_names.specs.Making.{then_from}
use Rattle.smt_terms.specs.Reading.{exactly, head_place, new_binding, binding_name}
use Rattle.smt_terms.specs.Cursor.{word_at, trees_from}
use Rattle.smt_terms.proofs.CheckLemmas.{refuses_first, refuses_as, checks_as}
use Rattle.smt_terms.proofs.checks.check_binding.Goals as goal

pub returns-in_err-check_exactly-clause-check : goal.returns-in_err-check_exactly-clause-check
returns-in_err-check_exactly-clause-check c =
    let p = err_from_is_err_and c.from_residual.result c.from_residual.ensures.1 in rw (p.1, p.2)
    (let t = trees_from c.args.tree.now (c.args.i + 1) in
    let p = (word_at c.args.tree.now c.args.i).place in
    let at = c.head_place_at.ensures ∙ ap (λ (q : Place). head_place q t) c.place_at-paren.ensures in
    refuses_first c.in_err-check_exactly.field-0.0 (exactly 2 (head_place p t) t) (λ _. new_binding c.args.names.now p t)
    (refuses_as c.in_err-check_exactly.field-0.0 (exactly 2 c.head_place_at.result t) (exactly 2 (head_place p t) t) (λ draft. ap (λ (q : Place). exactly 2 q t draft) (sym at)) c.in_err-check_exactly.ensures))

pub returns-clause-check : goal.returns-clause-check
returns-clause-check c =
    let t = trees_from c.args.tree.now (c.args.i + 1) in
    let p = (word_at c.args.tree.now c.args.i).place in
    let at = c.head_place_at.ensures ∙ ap (λ (q : Place). head_place q t) c.place_at-paren.ensures in
    checks_as c.check_binding_name.result (word_at c.args.tree.now (c.args.i + 1)) (binding_name c.args.names.now (word_at c.args.tree.now c.args.i) t) (new_binding c.args.names.now c.place_at-paren.result t)
    (λ draft. ap (then_from (λ (_ : Unit {0}). new_binding c.args.names.now p t)) (ap (λ (q : Place). exactly 2 q t draft) (sym at) ∙ c.in_ok-check_exactly.ensures draft)
    ∙ ap (λ (q : Place). new_binding c.args.names.now q t draft) (sym c.place_at-paren.ensures))
    c.check_binding_name.ensures.check
