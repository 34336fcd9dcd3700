use Rattle.std.proofs.Common.{subst}
use Rattle.std.proofs.lemmas.Result.{err_from_is_err_and}
use Rattle.smt_terms.specs.Cursor.{word_at, trees_from}
use Rattle.smt_text.specs.Word.{Word}
use Rattle.smt_names.specs.Making.{gives, ◌>>◌}
use Rattle.smt_names.specs.Makes.{Makes}
use Rattle.smt_terms.specs.Reading.{from, Reading}
use Rattle.smt_commands.specs.Commands.{new_sort, no_arguments}
use Rattle.smt_commands.proofs.Steps.{checked_as, refused_first, checks_after}
use Rattle.smt_commands.proofs.declaring.check_plain_sort.Goals as goal

pub returns-in_err-check_new_sort-clause-check : goal.returns-in_err-check_new_sort-clause-check
returns-in_err-check_new_sort-clause-check c =
    let p = err_from_is_err_and c.from_residual.result c.from_residual.ensures.1 in rw (p.1, p.2)
    (λ draft. refused_first (λ (name : Word). no_arguments c.args.head (from 1 (trees_from c.args.tree.now c.args.i)) >> gives name) c.in_err-check_new_sort.field-0.0 (new_sort c.args.state.now c.args.head (trees_from c.args.tree.now c.args.i) draft) (c.in_err-check_new_sort.ensures.check draft))

pub returns-clause-check : goal.returns-clause-check
returns-clause-check c = checks_after (λ (name : Word). no_arguments c.args.head (from 1 (trees_from c.args.tree.now c.args.i)) >> gives name) c.check_no_arguments.result (new_sort c.args.state.now c.args.head (trees_from c.args.tree.now c.args.i)) (word_at c.args.tree.now c.args.i) (word_at c.args.tree.now c.args.i) c.in_ok-check_new_sort.ensures.check
    (checked_as c.check_no_arguments.result (no_arguments c.args.head (from 1 (trees_from c.args.tree.now c.args.i))) (word_at c.args.tree.now c.args.i) (λ draft. subst (λ (t : Reading). Makes c.check_no_arguments.result draft draft (no_arguments c.args.head t)) c.behind_one.ensures (c.check_no_arguments.ensures draft)))
