use Rattle.std.proofs.Common.{ap, ◌∙◌}
use Rattle.search_board.specs.Board.{Shown}
use Rattle.search_board.specs.declared.change.Change.TheVariants.{Entered}
use Rattle.search_board.specs.Undo.{before_change}
use Rattle.search_values.specs.History.{now}
use Rattle.search_values.proofs.HistoryLemmas.{one_more, node_undone}
use Rattle.search_values.proofs.noted.Noted.enter.Goals as goal

pub returns-in-Ok-clause-history : goal.returns-in-Ok-clause-history
returns-in-Ok-clause-history c =
    one_more c.args.self.now _ Entered c.in-Ok.ensures.noted
    (ap (λ (s : Shown). before_change s Entered) c.in_ok-enter.ensures.ok ∙ node_undone (now c.args.self.now) c.args.kind c.args.truth c.args.places c.len-count.ensures.aligned)
