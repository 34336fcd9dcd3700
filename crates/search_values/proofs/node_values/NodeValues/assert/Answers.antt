use Rattle.std.proofs.Common.{List, map, ◌∙◌, ap}
use Rattle.search_board.specs.Board.{Shown}
use Rattle.search_values.specs.History.{now, board_at}
use Rattle.search_values.specs.Kept.{Kept}
use Rattle.search_values.proofs.LevelLemmas.{saved_stay, went_back}
use Rattle.search_values.proofs.node_values.NodeValues.assert.Goals as goal

pub returns-in-Ok-clause-saved : goal.returns-in-Ok-clause-saved
returns-in-Ok-clause-saved c =
    saved_stay c.self.inside.wiring c.self.inside.noted c.try_assert.new.self c.self.inside.levels.items c.self.invariant.levels c.in-Ok.ensures.history ∙ ap (λ (k : Kept). k.saved) c.self.view_is

pub returns-in-Err-clause-saved : goal.returns-in-Err-clause-saved
returns-in-Err-clause-saved c =
    let back = went_back c.self.inside.noted c.try_assert.new.self c.back_to.new.self c.mark-mark.result c.in-Err.ensures.history c.mark-mark.ensures c.back_to.ensures.gives c.back_to.ensures.kept c.back_to.ensures.at in
    saved_stay c.self.inside.wiring c.self.inside.noted c.back_to.new.self c.self.inside.levels.items c.self.invariant.levels back.history ∙ ap (λ (k : Kept). k.saved) c.self.view_is

pub returns-in-Err-clause-err : goal.returns-in-Err-clause-err
returns-in-Err-clause-err c =
    let back = went_back c.self.inside.noted c.try_assert.new.self c.back_to.new.self c.mark-mark.result c.in-Err.ensures.history c.mark-mark.ensures c.back_to.ensures.gives c.back_to.ensures.kept c.back_to.ensures.at in
    let saved = saved_stay c.self.inside.wiring c.self.inside.noted c.back_to.new.self c.self.inside.levels.items c.self.invariant.levels back.history in
    ap (λ (s : Shown). record { parts = c.self.inside.wiring.parts; shown = s; saved = map (board_at c.back_to.new.self) c.self.inside.levels.items }) back.same
    ∙ ap (λ (ss : List Shown). record { parts = c.self.inside.wiring.parts; shown = now c.self.inside.noted; saved = ss }) saved ∙ c.self.view_is
