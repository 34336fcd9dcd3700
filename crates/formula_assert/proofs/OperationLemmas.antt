-- What a node's operations ask for and do.
use Rattle.std.proofs.Common.{◌≡◌, ℕ, ◌+◌, ◌<◌, Bool, true, false, cond, List, [], ◌∷◌, take, map, get_or, slice_get, Some, Result, Ok, Err, All, sym, ap, subst, ◌∙◌}
use Rattle.std.specs.Prelude.{OnOk, OnErr}
use Rattle.std.proofs.lemmas.List.{map-append}
use Rattle.std.proofs.lemmas.List.Elements.{All-nil, All-cons, All-head, All-tail}
use Rattle.std.proofs.lemmas.Option.{slice_get-get_or}
use Rattle.graph_trigger.specs.Trigger.{IsValid}
use Rattle.graph_trigger.specs.declared.trigger.Trigger.{Trigger}
use Rattle.graph_meaning.specs.declared.op.Op.{Op}
use Rattle.graph_meaning.specs.declared.op.Op.TheVariants.{Merge, Differ, Live}
use Rattle.graph_terms.proofs.ListLaws.{take-slice_get}
use Rattle.graph_meaning.proofs.ReplayLaws.{replay-push}
use Rattle.graph_meaning.specs.State.{GraphState, replay, state_after}
use Rattle.formula_table.specs.declared.node.Node.{Node}
use Rattle.formula_table.specs.declared.node.Node.TheVariants.{Equal, Atom}
use Rattle.formula_table.specs.Formulas.{Formulas, IsFormulaTable, HasTriggers, NodesStand}
use Rattle.formula_assert.specs.InLevel.{IsInLevel, GrowsGraph}
use Rattle.formula_table.specs.Node.{terms_in}
use Rattle.formula_assert.proofs.Growth.{grows_none, grows_by}

pub all_live : (triggers : List Trigger) → All IsInLevel (map Live triggers)
all_live [] = All-nil IsInLevel
all_live (trigger ∷ triggers) = All-cons IsInLevel (Live trigger) (map Live triggers) tt (all_live triggers)

-- triggers that became live opened no level
pub live_grows : (before after : GraphState) (triggers : List Trigger) → after ≡ replay before (map Live triggers) → GrowsGraph before after
live_grows before after triggers is = record { operations = map Live triggers; in_level = all_live triggers; after_is = is }

-- one trigger more is live
pub live_next : (before here after : GraphState) (triggers : List Trigger) (i : ℕ) (trigger : Trigger) → here ≡ replay before (map Live (take i triggers)) → slice_get triggers i ≡ Some trigger → after ≡ state_after here (Live trigger) → after ≡ replay before (map Live (take (i + 1) triggers))
live_next before here after triggers i trigger here_is at is =
    is
    ∙ ap (λ (g : GraphState). state_after g (Live trigger)) here_is
    ∙ sym (replay-push before (map Live (take i triggers)) (Live trigger))
    ∙ ap (replay before) (sym (map-append Live (take i triggers) (trigger ∷ [])))
    ∙ ap (λ (list : List Trigger). replay before (map Live list)) (sym (take-slice_get triggers i trigger at))

-- an operation in a level was done, or nothing was
pub applied_grows : {U E : Type 0} (before after : GraphState) (op : Op) (result : Result U E) → IsInLevel op → OnOk result (after ≡ state_after before op) → OnErr result (after ≡ before) → GrowsGraph before after
applied_grows before after op (Ok u) inside ok err = grows_by before after op inside ok
applied_grows before after op (Err e) inside ok err = subst (GrowsGraph before) (sym err) (grows_none before)

module _ (terms : ℕ) (nodes : List Node) (n : ℕ) (node : Node) (stand : NodesStand terms nodes) (at : slice_get nodes n ≡ Some node) where
  -- the terms of an equation stand
  pub equation_stands : (positive : Bool) (left right : ℕ) → node ≡ Equal positive left right → (left < terms) × (right < terms)
  equation_stands positive left right is =
      let below : All (λ term. term < terms) (left ∷ right ∷ []) = subst (λ (x : Node). All (λ term. term < terms) (terms_in x)) is (stand n node at) in
      (All-head (λ term. term < terms) left (right ∷ []) below, All-head (λ term. term < terms) right [] (All-tail (λ term. term < terms) left (right ∷ []) below))

  -- and that of an atom
  pub truth_stands : (positive : Bool) (term : ℕ) → node ≡ Atom positive term → term < terms
  truth_stands positive term is =
      let below : All (λ t. t < terms) (term ∷ []) = subst (λ (x : Node). All (λ t. t < terms) (terms_in x)) is (stand n node at) in
      All-head (λ t. t < terms) term [] below

-- the operation of an equation is in a level
pub equation_inside : (positive : Bool) (left right : ℕ) → IsInLevel (cond positive (Merge left right) (Differ left right))
equation_inside true left right = tt
equation_inside false left right = tt

-- the triggers of a forall are valid
pub triggers_valid : (table : Formulas) → IsFormulaTable table → (n : ℕ) (triggers : List Trigger) → HasTriggers table n triggers → All IsValid triggers
triggers_valid table is n triggers has =
    let of_forall = is.foralls n has.0 has.1 in
    subst (All IsValid) has.2 (λ k d less. (of_forall.triggers k (get_or has.0.triggers k d) (slice_get-get_or has.0.triggers k d less)).valid)
