use Rattle.std.proofs.Common.{◌≡◌, List, map, ◌∙◌, ap, subst, sym}
use Rattle.formula_truth.specs.declared.truth.Truth.TheVariants.{Unset}
use Rattle.search_board.specs.declared.kind.Kind.TheVariants.{Leaf}
use Rattle.search_board.specs.Board.{Shown}
use Rattle.search_values.specs.Given.{HasValue, kind_of}
use Rattle.search_values.specs.History.{now, board_at}
use Rattle.search_values.specs.Kept.{Kept, given_of}
use Rattle.search_values.proofs.LeafLemmas.{leaf_is_unset}
use Rattle.search_values.proofs.LevelLemmas.{back_right, levels_stay, saved_stay, went_back}
use Rattle.search_values.proofs.node_values.NodeValues.set_leaf.Goals as goal

pub try_leaf-requires-clause-unset : goal.try_leaf-requires-clause-unset
try_leaf-requires-clause-unset c =
    let L : Kept → Type 0 = λ k. kind_of (given_of k) c.args.n ≡ Leaf in
    let U : Kept → Type 0 = λ k. HasValue (given_of k) c.args.n Unset in
    leaf_is_unset c.self.inside.wiring (now c.self.inside.noted) c.args.n (subst L (sym c.self.view_is) c.requires.leaf) (subst U (sym c.self.view_is) c.requires.unset)

pub invariant_of-self-in-Err : goal.invariant_of-self-in-Err
invariant_of-self-in-Err c =
    let back = went_back c.self.inside.noted c.try_leaf.new.self c.back_to.new.self c.mark-mark.result c.in-Err.ensures.history c.mark-mark.ensures c.back_to.ensures.gives c.back_to.ensures.kept c.back_to.ensures.at in
    record {
      right = back_right c.self.inside.wiring c.self.inside.noted c.back_to.new.self c.self.invariant.right back;
      levels = levels_stay c.self.inside.wiring c.self.inside.noted c.back_to.new.self c.self.inside.levels.items c.self.invariant.levels back.history;
    }

pub returns-in-Ok-clause-saved : goal.returns-in-Ok-clause-saved
returns-in-Ok-clause-saved c =
    saved_stay c.self.inside.wiring c.self.inside.noted c.try_leaf.new.self c.self.inside.levels.items c.self.invariant.levels c.in-Ok.ensures.history ∙ ap (λ (k : Kept). k.saved) c.self.view_is

pub returns-in-Err-clause-saved : goal.returns-in-Err-clause-saved
returns-in-Err-clause-saved c =
    let back = went_back c.self.inside.noted c.try_leaf.new.self c.back_to.new.self c.mark-mark.result c.in-Err.ensures.history c.mark-mark.ensures c.back_to.ensures.gives c.back_to.ensures.kept c.back_to.ensures.at in
    saved_stay c.self.inside.wiring c.self.inside.noted c.back_to.new.self c.self.inside.levels.items c.self.invariant.levels back.history ∙ ap (λ (k : Kept). k.saved) c.self.view_is

pub returns-in-Err-clause-err : goal.returns-in-Err-clause-err
returns-in-Err-clause-err c =
    let back = went_back c.self.inside.noted c.try_leaf.new.self c.back_to.new.self c.mark-mark.result c.in-Err.ensures.history c.mark-mark.ensures c.back_to.ensures.gives c.back_to.ensures.kept c.back_to.ensures.at in
    let saved = saved_stay c.self.inside.wiring c.self.inside.noted c.back_to.new.self c.self.inside.levels.items c.self.invariant.levels back.history in
    ap (λ (s : Shown). record { parts = c.self.inside.wiring.parts; shown = s; saved = map (board_at c.back_to.new.self) c.self.inside.levels.items }) back.same
    ∙ ap (λ (ss : List Shown). record { parts = c.self.inside.wiring.parts; shown = now c.self.inside.noted; saved = ss }) saved ∙ c.self.view_is
