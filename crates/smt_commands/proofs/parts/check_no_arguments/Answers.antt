use Rattle.std.proofs.Common.{ℕ, ◌==◌, ap, ◌∙◌}
use Rattle.std.proofs.lemmas.Result.{err_from_is_err_and}
use Rattle.smt_names.specs.declared.refusal.Refusal.TheVariants.{NotInProfile}
use Rattle.smt_names.specs.Making.{Making, must_hold}
use Rattle.smt_terms.specs.Reading.{Reading, first_place}
use Rattle.smt_terms.specs.Cursor.{trees_from}
use Rattle.smt_text.specs.declared.token.Place.{Place}
use Rattle.smt_commands.specs.Commands.{numeral_first}
use Rattle.smt_commands.proofs.Steps.{refused_first, refused_after, made_after, unwanted, not_zero}
use Rattle.smt_commands.proofs.parts.check_no_arguments.Goals as goal

abbrev rest : Place → Reading → ℕ → Making (Unit {0})
rest head parts n = must_hold (n == 0) NotInProfile (first_place head parts)

pub returns-in_err-count : goal.returns-in_err-count
returns-in_err-count c draft =
    let p = err_from_is_err_and c.from_residual.result c.from_residual.ensures.1 in rw (p.1, p.2)
    (refused_first (rest c.args.missing (trees_from c.args.tree.now c.args.i)) c.in_err-count.field-0.0 (numeral_first c.args.missing (trees_from c.args.tree.now c.args.i) draft) (c.in_err-count.ensures draft))

pub returns-then-count-eq0 : goal.returns-then-count-eq0
returns-then-count-eq0 c draft = made_after (rest c.args.missing (trees_from c.args.tree.now c.args.i)) (numeral_first c.args.missing (trees_from c.args.tree.now c.args.i) draft) c.in_ok-count.count draft (c.in_ok-count.ensures draft)
    ∙ ap (λ (n : ℕ). rest c.args.missing (trees_from c.args.tree.now c.args.i) n draft) c.if-count-eq0.true

pub returns-else-count-eq0 : goal.returns-else-count-eq0
returns-else-count-eq0 c draft = refused_after (rest c.args.missing (trees_from c.args.tree.now c.args.i)) c.at.result (numeral_first c.args.missing (trees_from c.args.tree.now c.args.i) draft) c.in_ok-count.count draft (c.in_ok-count.ensures draft)
    (unwanted c.at.result (c.in_ok-count.count == 0) NotInProfile c.first_place_at-place.result (first_place c.args.missing (trees_from c.args.tree.now c.args.i)) draft c.at.ensures c.first_place_at-place.ensures (not_zero c.in_ok-count.count c.if-count-eq0.false))
