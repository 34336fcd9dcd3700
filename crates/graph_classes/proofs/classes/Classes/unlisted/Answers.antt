use Rattle.std.proofs.Common.{ap}
use Rattle.graph_classes.specs.Shown.{lists_in}
use Rattle.graph_classes.proofs.FirstLemmas.{first_parts_are}
use Rattle.graph_classes.proofs.classes.Classes.unlisted.Goals as goal

pub returns : goal.returns
returns c = first_parts_are _ c.args.limit c.in_ok-rows.ensures.rows c.in_ok-rows.ensures.limit c.in_ok-labels.ensures c.in_ok-members.ensures c.in_ok-uses.ensures c.in_ok-table.ensures c.in_ok-leaders.ensures (ap lists_in c.new-lists.ensures) c.new-log.ensures
