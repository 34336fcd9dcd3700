use Rattle.std.proofs.Common.{ap, ◌∙◌}
use Rattle.search_board.specs.Board.{Shown, with_asserted}
use Rattle.search_board.specs.Undo.{before_change}
use Rattle.search_board.specs.declared.change.Change.TheVariants.{Asserted}
use Rattle.search_values.specs.History.{now}
use Rattle.search_values.proofs.HistoryLemmas.{one_more, asserted_undone}
use Rattle.search_values.proofs.noted.Noted.set_asserted.Goals as goal

pub returns-clause-history : goal.returns-clause-history
returns-clause-history c =
    one_more c.args.self.now _ (Asserted c.args.n c.asserted-old.result) c.in_ok-keep.ensures.ok
    (ap (λ (s : Shown). before_change s (Asserted c.args.n c.asserted-old.result)) (c.set_asserted.ensures ∙ ap (λ (s : Shown). with_asserted s c.args.n c.args.asserted) c.in_ok-keep.ensures.board)
    ∙ asserted_undone (now c.args.self.now) c.args.n c.args.asserted c.asserted-old.result c.asserted-old.ensures)
