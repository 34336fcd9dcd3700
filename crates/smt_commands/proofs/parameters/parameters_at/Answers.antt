use Rattle.smt_terms.specs.Cursor.{trees_from}
use Rattle.smt_terms.specs.Reading.{list_first}
use Rattle.smt_commands.specs.Commands.{parameters_of}
use Rattle.smt_terms.specs.Reading.{Listed}
use Rattle.smt_commands.proofs.Bindings.{has_after}
use Rattle.smt_commands.proofs.parameters.parameters_at.Goals as goal

pub returns : goal.returns
returns c = has_after (λ (listed : Listed). parameters_of c.args.state.now listed.inner) c.parameters_of.result (list_first c.args.missing (trees_from c.args.tree.now c.args.i)) _ c.in_ok-inner.ensures c.parameters_of.ensures
