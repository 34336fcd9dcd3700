use Rattle.std.proofs.Common.{◌∙◌, ap, Some}
use Rattle.graph_trigger.specs.Trigger.{at_root}
use Rattle.match_owed.proofs.root_symbol.root_symbol.Goals as goal

pub returns-in-App-clause-some : goal.returns-in-App-clause-some
returns-in-App-clause-some c = (c.get-root.result, c.in-App.args, at_root c.get-root.ensures.value, c.get.ensures ∙ ap Some c.in-App.is)
