-- What stood stands where the levels are kept.
use Rattle.std.proofs.Common.{◌≡◌, ℕ, List, [], ◌∷◌, ◌++◌, All, refl, sym, ap, ◌∙◌, append-nil, append_assoc}
use Rattle.std.proofs.lemmas.List.Elements.{All-head, All-tail}
use Rattle.graph_meaning.specs.declared.op.Op.{Op}
use Rattle.graph_meaning.specs.declared.op.Op.TheVariants.{Add, Merge, Differ, Live, Push, Pop}
use Rattle.graph_meaning.specs.declared.done.Done.{Done}
use Rattle.graph_meaning.specs.Standing.{then_op, standing_after}
use Rattle.graph_meaning.specs.State.{GraphState, replay, state_after}
use Rattle.formula_assert.specs.Assertions.{Assertions}
use Rattle.formula_assert.specs.InLevel.{IsInLevel, KeepsLevels}

-- one operation in a level stands last
one_stands : (standing : List Done) (serial : ℕ) (op : Op) → IsInLevel op →
    standing_after standing serial op ≡ then_op standing serial op
one_stands standing serial (Add symbol args) inside = refl
one_stands standing serial (Merge left right) inside = refl
one_stands standing serial (Differ left right) inside = refl
one_stands standing serial (Live trigger) inside = refl
one_stands standing serial Push inside = absurd inside
one_stands standing serial Pop inside = absurd inside

-- so do some
ops_stand : (graph : GraphState) (ops : List Op) → All IsInLevel ops →
    (more : List Done) × ((replay graph ops).standing ≡ graph.standing ++ more)
ops_stand graph [] each = ([], sym (append-nil graph.standing))
ops_stand graph (op ∷ ops) each =
    let rest = ops_stand (state_after graph op) ops (All-tail IsInLevel op ops each) in
    let last : Done = record { serial = graph.done; op = op } in (
      last ∷ rest.0,
      rest.1
          ∙ ap (λ (list : List Done). list ++ rest.0)
          (one_stands graph.standing graph.done op (All-head IsInLevel op ops each))
          ∙ append_assoc graph.standing (last ∷ []) rest.0,
    )

-- what stood is the beginning of what stands
pub levels_stand : (before after : Assertions) → KeepsLevels before after →
    (more : List Done) × (after.graph.standing ≡ before.graph.standing ++ more)
levels_stand before after keeps =
    let grows = keeps.holds_more.grows in
    let stand = ops_stand before.graph grows.operations grows.in_level in
    (stand.0, ap (λ (graph : GraphState). graph.standing) grows.after_is ∙ stand.1)
