use Rattle.search_values.proofs.HistoryLemmas.{board_at_back}
use Rattle.search_values.proofs.noted.Noted.back_to.Goals as goal

pub returns-clause-at : goal.returns-clause-at
returns-clause-at c = λ m low. board_at_back c.args.self.now _ c.args.mark m low c.requires c.back_to_mark.ensures.kept c.back_to_mark.ensures.gives
