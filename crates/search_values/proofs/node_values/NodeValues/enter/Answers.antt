use Rattle.std.proofs.Common.{◌≡◌, ◌<◌, ◌+◌, ◌^◌, ℕ, List, All, length, map, ◌∙◌, ap, subst, sym, arith}
use Rattle.search_board.specs.Board.{Shown}
use Rattle.search_values.specs.Wiring.{Wires}
use Rattle.search_values.specs.History.{now, board_at}
use Rattle.search_values.specs.Changes.{EntersNode}
use Rattle.search_values.specs.GivenBy.{given_by}
use Rattle.search_values.specs.Kept.{Kept, given_of}
use Rattle.search_values.specs.KeptInside.{IsRight, AreLevels}
use Rattle.search_values.proofs.LevelLemmas.{back_right, levels_grow, levels_stay, saved_stay, went_back}
use Rattle.search_values.proofs.node_values.NodeValues.enter.Goals as goal

pub try_node-requires-clause-earlier : goal.try_node-requires-clause-earlier
try_node-requires-clause-earlier c = subst (λ (k : Kept). All (λ part. part < length k.shown.kinds) c.args.parts) (sym c.self.view_is) c.requires.earlier

pub try_node-requires-clause-few : goal.try_node-requires-clause-few
try_node-requires-clause-few c = subst (λ (k : Kept). length k.shown.kinds + 1 < 2 ^ 32) (sym c.self.view_is) c.requires.few

pub invariant_of-self-in-Err : goal.invariant_of-self-in-Err
invariant_of-self-in-Err c =
    let back = went_back c.self.inside.noted c.try_node.new.self c.back_to.new.self c.mark-mark.result c.in-Err.ensures.history c.mark-mark.ensures c.back_to.ensures.gives c.back_to.ensures.kept c.back_to.ensures.at in
    let right = back_right c.self.inside.wiring c.self.inside.noted c.back_to.new.self c.self.invariant.right back in
    let levels = levels_stay c.self.inside.wiring c.self.inside.noted c.back_to.new.self c.self.inside.levels.items c.self.invariant.levels back.history in
    record {
      right = subst (λ (w : Wires). IsRight w (now c.back_to.new.self)) (sym c.in-Err.ensures.err) right;
      levels = subst (λ (w : Wires). AreLevels w c.back_to.new.self c.self.inside.levels.items) (sym c.in-Err.ensures.err) levels;
    }

pub returns-in-Ok-clause-enters : goal.returns-in-Ok-clause-enters
returns-in-Ok-clause-enters c =
    subst (λ (k : Kept). EntersNode c.args.kind c.args.parts (given_of k) (given_by c.try_node.new.wiring.parts (now c.try_node.new.self))) c.self.view_is c.in-Ok.ensures.enters

pub returns-in-Ok-clause-saved : goal.returns-in-Ok-clause-saved
returns-in-Ok-clause-saved c =
    saved_stay c.self.inside.wiring c.self.inside.noted c.try_node.new.self c.self.inside.levels.items c.self.invariant.levels c.in-Ok.ensures.history ∙ ap (λ (k : Kept). k.saved) c.self.view_is

pub returns-in-Err-clause-saved : goal.returns-in-Err-clause-saved
returns-in-Err-clause-saved c =
    let back = went_back c.self.inside.noted c.try_node.new.self c.back_to.new.self c.mark-mark.result c.in-Err.ensures.history c.mark-mark.ensures c.back_to.ensures.gives c.back_to.ensures.kept c.back_to.ensures.at in
    saved_stay c.self.inside.wiring c.self.inside.noted c.back_to.new.self c.self.inside.levels.items c.self.invariant.levels back.history ∙ ap (λ (k : Kept). k.saved) c.self.view_is

pub returns-in-Err-clause-err : goal.returns-in-Err-clause-err
returns-in-Err-clause-err c =
    let back = went_back c.self.inside.noted c.try_node.new.self c.back_to.new.self c.mark-mark.result c.in-Err.ensures.history c.mark-mark.ensures c.back_to.ensures.gives c.back_to.ensures.kept c.back_to.ensures.at in
    let saved = saved_stay c.self.inside.wiring c.self.inside.noted c.back_to.new.self c.self.inside.levels.items c.self.invariant.levels back.history in
    ap (λ (w : Wires). record { parts = w.parts; shown = now c.back_to.new.self; saved = map (board_at c.back_to.new.self) c.self.inside.levels.items }) c.in-Err.ensures.err
    ∙ ap (λ (s : Shown). record { parts = c.self.inside.wiring.parts; shown = s; saved = map (board_at c.back_to.new.self) c.self.inside.levels.items }) back.same
    ∙ ap (λ (ss : List Shown). record { parts = c.self.inside.wiring.parts; shown = now c.self.inside.noted; saved = ss }) saved ∙ c.self.view_is
