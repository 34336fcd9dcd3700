use Rattle.std.proofs.Common.{subst}
use Rattle.std.proofs.lemmas.Result.{err_from_is_err_and}
use Rattle.smt_terms.specs.Cursor.{trees_from}
use Rattle.smt_text.specs.Word.{Word}
use Rattle.smt_names.specs.Makes.{Makes}
use Rattle.smt_terms.specs.Reading.{from, Reading}
use Rattle.smt_commands.specs.Commands.{key_form, plain_value}
use Rattle.smt_commands.proofs.Steps.{refused_first, makes_after}
use Rattle.smt_commands.proofs.reading.check_info.Goals as goal

pub returns-in_err-check_key : goal.returns-in_err-check_key
returns-in_err-check_key c draft =
    let p = err_from_is_err_and c.from_residual.result c.from_residual.ensures.1 in rw (p.1, p.2)
    (refused_first (λ (_ : Word). plain_value (from 1 (trees_from c.args.tree.now c.args.i))) c.in_err-check_key.field-0.0 (key_form c.args.head (trees_from c.args.tree.now c.args.i) draft) (c.in_err-check_key.ensures draft))

pub returns : goal.returns
returns c draft = makes_after (λ (_ : Word). plain_value (from 1 (trees_from c.args.tree.now c.args.i))) c.check_plain_value.result (key_form c.args.head (trees_from c.args.tree.now c.args.i)) _ draft draft draft (c.in_ok-check_key.ensures draft) (subst (λ (t : Reading). Makes c.check_plain_value.result draft draft (plain_value t)) c.behind_one.ensures (c.check_plain_value.ensures draft))
