use Rattle.std.proofs.Common.{}
use Rattle.smt_terms.specs.Reading.{list_first}
use Rattle.smt_terms.specs.Cursor.{trees_from}
use Rattle.smt_commands.specs.Commands.{argument_sorts}
use Rattle.smt_commands.proofs.Steps.{makes_after}
use Rattle.smt_commands.proofs.parts.arguments_at.Goals as goal

pub returns : goal.returns
returns c draft = makes_after (argument_sorts c.args.state.now) c.argument_sorts_at.result (list_first c.args.missing (trees_from c.args.tree.now c.args.i)) _ draft draft draft (c.in_ok-inner.ensures draft) (c.argument_sorts_at.ensures draft)
