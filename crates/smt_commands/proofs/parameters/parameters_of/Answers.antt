use Rattle.smt_terms.specs.Cursor.{trees_from}
use Rattle.smt_terms.specs.Terms.{variables_from}
use Rattle.smt_commands.specs.Commands.{few_bindings}
use Rattle.smt_commands.proofs.Bindings.{has_after}
use Rattle.smt_commands.proofs.parameters.parameters_of.Goals as goal

pub returns : goal.returns
returns c = has_after (λ (_ : Unit {0}). variables_from c.args.state.now 0 (trees_from c.args.tree.now c.args.i)) c.read_parameters.result (few_bindings (trees_from c.args.tree.now c.args.i)) _ c.in_ok-check_parameters.ensures c.read_parameters.ensures
