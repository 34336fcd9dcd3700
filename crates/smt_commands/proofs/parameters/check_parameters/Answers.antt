use Rattle.std.proofs.Common.{[]}
use Rattle.std.proofs.lemmas.Result.{err_from_is_err_and}
use Rattle.graph_terms.specs.Terms.{most_args}
use Rattle.smt_terms.specs.Cursor.{trees_from}
use Rattle.smt_names.specs.declared.refusal.Refusal.TheVariants.{TooManyArguments}
use Rattle.smt_terms.specs.Reading.{from, bindings_after, no_binding}
use Rattle.smt_commands.proofs.Steps.{refused_first, makes_after}
use Rattle.smt_commands.proofs.parameters.check_parameters.Goals as goal

pub returns-in_err-check_names : goal.returns-in_err-check_names
returns-in_err-check_names c draft =
    let p = err_from_is_err_and c.from_residual.result c.from_residual.ensures.1 in rw (p.1, p.2)
    (refused_first (λ (_ : Unit {0}). no_binding TooManyArguments (from most_args (trees_from c.args.tree.now c.args.i))) c.in_err-check_names.field-0.0 (bindings_after [] (trees_from c.args.tree.now c.args.i) draft) (c.in_err-check_names.ensures draft))

pub returns : goal.returns
returns c draft = makes_after (λ (_ : Unit {0}). no_binding TooManyArguments (from most_args (trees_from c.args.tree.now c.args.i))) c.check_few_bindings.result (bindings_after [] (trees_from c.args.tree.now c.args.i)) _ draft draft draft (c.in_ok-check_names.ensures draft) (c.check_few_bindings.ensures draft)
