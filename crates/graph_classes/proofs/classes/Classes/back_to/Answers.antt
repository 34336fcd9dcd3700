use Rattle.graph_classes.proofs.HistoryLemmas.{state_at_back}
use Rattle.graph_classes.proofs.classes.Classes.back_to.Goals as goal

pub returns-clause-at : goal.returns-clause-at
returns-clause-at c m low = state_at_back c.args.self.now (record { parts = c.back_to_mark.new.value; trail = c.back_to_mark.new.self }) c.args.mark m low c.requires c.back_to_mark.ensures.kept c.back_to_mark.ensures.gives
