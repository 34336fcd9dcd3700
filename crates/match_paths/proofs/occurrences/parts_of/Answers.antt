use Rattle.std.proofs.Common.{◌∙◌, ap, Some}
use Rattle.match_paths.proofs.OccurrenceLemmas.{parts_here}
use Rattle.match_paths.proofs.occurrences.parts_of.Goals as goal

pub returns-in_ok-parts-in-App : goal.returns-in_ok-parts-in-App
returns-in_ok-parts-in-App c = parts_here c.args.trigger.now c.args.above.now c.in-App.symbol c.in-App.args c.in_ok-parts-in-App.parts.items (c.get.ensures ∙ ap Some c.in-App.is) c.in_ok-parts-in-App.ensures
