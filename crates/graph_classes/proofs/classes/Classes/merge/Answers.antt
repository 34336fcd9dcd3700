use Rattle.graph_classes.proofs.HistoryLemmas.{history_back}
use Rattle.graph_classes.proofs.classes.Classes.merge.Goals as goal

pub returns-in-Err-clause-history : goal.returns-in-Err-clause-history
returns-in-Err-clause-history c = history_back c.args.self.now c.try_merge.new.self (record { parts = c.back_to_mark.new.value; trail = c.back_to_mark.new.self }) c.mark-start.result c.try_merge.ensures.history c.mark-start.ensures c.back_to_mark.ensures.kept c.back_to_mark.ensures.gives
