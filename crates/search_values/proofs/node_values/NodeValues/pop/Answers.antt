use Rattle.std.proofs.Common.{◌≡◌, ℕ, List, [], length, map, take, subst, sym, ◌∙◌, ap}
use Rattle.search_values.specs.Wiring.{Wires, IsWired}
use Rattle.search_values.specs.History.{now, board_at}
use Rattle.search_values.specs.Kept.{popped}
use Rattle.search_values.specs.KeptInside.{AreLevels}
use Rattle.search_values.proofs.LevelLemmas.{levels_pop, level_stands, popped_none, right_pop, saved_pop}
use Rattle.search_values.proofs.node_values.NodeValues.pop.Goals as goal

pub invariant_of-self : goal.invariant_of-self
invariant_of-self c =
    let P : List ℕ → Type 0 = λ levels. AreLevels c.self.inside.wiring c.self.inside.noted levels in
    let levels = subst P c.in-Some.ensures.items c.self.invariant.levels in
    let old = c.self.inside.noted in
    let new = c.back_to.new.self in
    let parts : c.cut.new.self.parts ≡ take (length (now new).kinds) c.self.inside.wiring.parts = c.cut.ensures.parts ∙ ap (λ (n : ℕ). take n c.self.inside.wiring.parts) c.len.ensures.len in
    record {
      right = right_pop c.self.inside.wiring c.cut.new.self old new c.pop.new.self.items c.in-Some.mark levels c.back_to.ensures.at c.back_to.ensures.gives c.cut.ensures.wired parts;
      levels = levels_pop c.self.inside.wiring c.cut.new.self old new c.pop.new.self.items c.in-Some.mark levels c.back_to.ensures.at c.back_to.ensures.kept c.back_to.ensures.gives parts;
    }

pub returns-in-Some : goal.returns-in-Some
returns-in-Some c =
    let P : List ℕ → Type 0 = λ levels. AreLevels c.self.inside.wiring c.self.inside.noted levels in
    let levels = subst P c.in-Some.ensures.items c.self.invariant.levels in
    let old = c.self.inside.noted in
    let new = c.back_to.new.self in
    let parts : c.cut.new.self.parts ≡ take (length (now new).kinds) c.self.inside.wiring.parts = c.cut.ensures.parts ∙ ap (λ (n : ℕ). take n c.self.inside.wiring.parts) c.len.ensures.len in
    saved_pop c.self.inside.wiring c.cut.new.self old new c.pop.new.self.items c.in-Some.mark levels c.back_to.ensures.at c.back_to.ensures.gives parts
    ∙ ap (λ (ls : List ℕ). popped (record { parts = c.self.inside.wiring.parts; shown = now old; saved = map (board_at old) ls })) (sym c.in-Some.ensures.items)
    ∙ ap popped c.self.view_is
