use Rattle.std.proofs.Common.{ap, ◌∙◌}
use Rattle.search_board.specs.Board.{Shown, with_truth}
use Rattle.search_board.specs.Undo.{before_change}
use Rattle.search_board.specs.declared.change.Change.TheVariants.{Valued}
use Rattle.search_values.specs.History.{now}
use Rattle.search_values.proofs.HistoryLemmas.{one_more, truth_undone}
use Rattle.search_values.proofs.noted.Noted.set_truth.Goals as goal

pub returns-clause-history : goal.returns-clause-history
returns-clause-history c =
    one_more c.args.self.now _ (Valued c.args.n c.truth-old.result) c.in_ok-keep.ensures.ok
    (ap (λ (s : Shown). before_change s (Valued c.args.n c.truth-old.result)) (c.set_truth.ensures ∙ ap (λ (s : Shown). with_truth s c.args.n c.args.truth) c.in_ok-keep.ensures.board)
    ∙ truth_undone (now c.args.self.now) c.args.n c.args.truth c.truth-old.result c.truth-old.ensures)
