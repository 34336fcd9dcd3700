-- What could be entered still can where the levels are kept, and places of disjunctions stay ones.
use Rattle.std.proofs.Common.{◌≡◌, ℕ, ◌<◌, ◌≤◌, List, [], ◌∷◌, ◌++◌, length, slice_get, Some, All, refl, sym, ap}
use Rattle.std.proofs.Common.{◌∙◌, append-nil, append_assoc, arith}
use Rattle.std.specs.List.{filter_map}
use Rattle.std.proofs.lemmas.List.{length-append}
use Rattle.std.proofs.lemmas.List.Elements.{All-head, All-tail, All-weaker, filter_map-append}
use Rattle.graph_terms.specs.Terms.{first_rows}
use Rattle.graph_meaning.specs.declared.op.Op.{Op}
use Rattle.graph_meaning.specs.declared.op.Op.TheVariants.{Add, Merge, Differ, Live, Push, Pop}
use Rattle.graph_meaning.specs.declared.done.Done.{Done}
use Rattle.graph_meaning.specs.Standing.{terms_of, added_row, then_op, standing_after}
use Rattle.graph_meaning.specs.State.{GraphState, replay, state_after}
use Rattle.match_store.specs.declared.instance.Instance.{Instance}
use Rattle.formula_table.specs.declared.node.Node.{Node}
use Rattle.formula_table.specs.declared.node.Node.TheVariants.{Or}
use Rattle.formula_table.specs.declared.table_forall.TableForall.{TableForall}
use Rattle.formula_assert.specs.Assertions.{Assertions}
use Rattle.formula_assert.specs.InLevel.{IsInLevel, KeepsLevels}
use Rattle.search_branch.specs.Struck.{IsPlaceOf}
use Rattle.search_check.specs.Round.{CanEnter}
use Rattle.search_check.proofs.ElementLemmas.{get_longer}

-- one operation in a level stands last
one_stands : (standing : List Done) (serial : ℕ) (op : Op) → IsInLevel op →
    standing_after standing serial op ≡ then_op standing serial op
one_stands standing serial (Add symbol args) inside = refl
one_stands standing serial (Merge left right) inside = refl
one_stands standing serial (Differ left right) inside = refl
one_stands standing serial (Live trigger) inside = refl
one_stands standing serial Push inside = absurd inside
one_stands standing serial Pop inside = absurd inside

-- so do some
ops_stand : (graph : GraphState) (ops : List Op) → All IsInLevel ops →
    (more : List Done) × ((replay graph ops).standing ≡ graph.standing ++ more)
ops_stand graph [] each = ([], sym (append-nil graph.standing))
ops_stand graph (op ∷ ops) each =
    let rest = ops_stand (state_after graph op) ops (All-tail IsInLevel op ops each) in
    let last : Done = record { serial = graph.done; op = op } in (
      last ∷ rest.0,
      rest.1
          ∙ ap (λ (list : List Done). list ++ rest.0)
          (one_stands graph.standing graph.done op (All-head IsInLevel op ops each))
          ∙ append_assoc graph.standing (last ∷ []) rest.0,
    )

terms_longer : (standing more : List Done) → length (terms_of standing) ≤ length (terms_of (standing ++ more))
terms_longer standing more =
    let one = length-append first_rows (filter_map added_row standing) in
    let other = length-append first_rows (filter_map added_row (standing ++ more)) in
    let all = ap length (filter_map-append added_row standing more)
    ∙ length-append (filter_map added_row standing) (filter_map added_row more) in
    omega (arith, one, other, all)

module _ (before after : Assertions) (keeps : KeepsLevels before after) where
  -- terms that stood stand
  pub terms_kept : length (terms_of before.graph.standing) ≤ length (terms_of after.graph.standing)
  terms_kept =
      let grows = keeps.holds_more.grows in
      let stand = ops_stand before.graph grows.operations grows.in_level in
      let are : after.graph.standing ≡ before.graph.standing ++ stand.0 =
      ap (λ (graph : GraphState). graph.standing) grows.after_is ∙ stand.1 in
      let longer = terms_longer before.graph.standing stand.0 in
      let same : length (terms_of after.graph.standing) ≡ length (terms_of (before.graph.standing ++ stand.0)) =
      ap (λ (standing : List Done). length (terms_of standing)) are in
      omega (arith, longer, same)

  -- so do foralls
  forall_kept : (n : ℕ) (forall : TableForall) → slice_get before.formulas.foralls n ≡ Some forall →
      slice_get after.formulas.foralls n ≡ Some forall
  forall_kept n forall at =
      ap (λ (foralls : List TableForall). slice_get foralls n) keeps.formulas_grow.foralls_are
      ∙ get_longer before.formulas.foralls keeps.formulas_grow.more_foralls n forall at

  -- and nodes
  node_kept : (n : ℕ) (node : Node) → slice_get before.formulas.nodes n ≡ Some node →
      slice_get after.formulas.nodes n ≡ Some node
  node_kept n node at =
      ap (λ (nodes : List Node). slice_get nodes n) keeps.formulas_grow.nodes_are
      ∙ get_longer before.formulas.nodes keeps.formulas_grow.more_nodes n node at

  -- an instance that could be entered still can
  can_still : (instance : Instance) → CanEnter before instance → CanEnter after instance
  can_still instance can = record {
    variables = (
      can.variables.0,
      forall_kept instance.forall can.variables.0 can.variables.1,
      can.variables.2,
    );
    terms = All-weaker (λ term. term < length (terms_of before.graph.standing))
        (λ term. term < length (terms_of after.graph.standing))
        (λ term below. let kept = terms_kept in omega (arith, below, kept)) instance.tuple can.terms;
  }

  pub all_can_still : (instances : List Instance) → All (CanEnter before) instances →
      All (CanEnter after) instances
  all_can_still instances can = All-weaker (CanEnter before) (CanEnter after) can_still instances can

  -- a place of a disjunction stays one
  pub places_kept : (struck : List (ℕ × ℕ)) → All (IsPlaceOf before.formulas.nodes) struck →
      All (IsPlaceOf after.formulas.nodes) struck
  places_kept struck places = All-weaker (IsPlaceOf before.formulas.nodes) (IsPlaceOf after.formulas.nodes)
      (λ at place. record {
        parts = place.parts;
        part = place.part;
        is_or = node_kept at.0 (Or place.parts) place.is_or;
        at_place = place.at_place;
      }) struck places
