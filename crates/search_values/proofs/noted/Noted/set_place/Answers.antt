use Rattle.std.proofs.Common.{ap, ◌∙◌}
use Rattle.search_board.specs.Board.{Shown, with_place}
use Rattle.search_board.specs.Undo.{before_change}
use Rattle.search_board.specs.declared.change.Change.TheVariants.{Told}
use Rattle.search_values.specs.History.{now}
use Rattle.search_values.proofs.HistoryLemmas.{one_more, place_undone, list_within}
use Rattle.search_values.proofs.noted.Noted.set_place.Goals as goal

pub returns-clause-history : goal.returns-clause-history
returns-clause-history c =
    one_more c.args.self.now _ (Told c.args.n c.args.i c.place-old.result) c.in_ok-keep.ensures.ok
    (ap (λ (s : Shown). before_change s (Told c.args.n c.args.i c.place-old.result)) (c.set_place.ensures ∙ ap (λ (s : Shown). with_place s c.args.n c.args.i c.args.place) c.in_ok-keep.ensures.board)
    ∙ place_undone (now c.args.self.now) c.args.n c.args.i c.args.place c.place-old.result (list_within (now c.args.self.now).places c.args.n c.args.i c.requires.place) c.place-old.ensures)
