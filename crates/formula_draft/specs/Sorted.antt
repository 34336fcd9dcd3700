-- Which sorts rows have, and which nodes are formulas, by the sorts of functions. Sorts are numbers, and Bool is 0.
use Rattle.std.specs.Prelude.{◌≡◌, ℕ, ◌+◌, ◌<◌, ◌≤◌, Bool, List, [], ◌∷◌, map, length, slice_get, Some, All}
use Rattle.graph_trigger.specs.declared.pattern_row.PatternRow.{PatternRow}
use Rattle.graph_trigger.specs.declared.pattern_row.PatternRow.TheVariants as pattern
use Rattle.graph_trigger.specs.declared.trigger.Trigger.{Trigger}
use Rattle.formula_draft.specs.declared.draft_row.DraftRow.{DraftRow}
use Rattle.formula_draft.specs.declared.draft_row.DraftRow.TheVariants.{Var, App}
use Rattle.formula_draft.specs.declared.draft_node.DraftNode.{DraftNode}
use Rattle.formula_draft.specs.declared.draft_node.DraftNode.TheVariants.{Equal, Atom, And, Or, Forall}
use Rattle.formula_draft.specs.declared.draft_forall.DraftForall.{DraftForall}

-- the sorts of a function: those of its arguments, and that of its value
pub record Signature : Type 0 where
  pub arguments : List ℕ
  pub sort : ℕ

mutual
  -- The row has this sort, where the variables have those. The symbols of functions count from 2,
  -- after those of true and false.
  pub data HasSort (signatures : List Signature) (variables : List ℕ) (rows : List DraftRow) : ℕ → ℕ → Type 0 where
    variable : {row index sort : ℕ} → slice_get rows row ≡ Some (Var index) → slice_get variables index ≡ Some sort →
        HasSort signatures variables rows row sort
    application : (place : ℕ) {row : ℕ} {args : List ℕ} {f : Signature} →
        slice_get rows row ≡ Some (App (place + 2) args) → slice_get signatures place ≡ Some f →
        HaveSorts signatures variables rows args f.arguments → HasSort signatures variables rows row f.sort

  -- the rows have these sorts
  pub data HaveSorts (signatures : List Signature) (variables : List ℕ) (rows : List DraftRow) : List ℕ → List ℕ →
      Type 0 where
    none : HaveSorts signatures variables rows [] []
    more : {row sort : ℕ} {others sorts : List ℕ} → HasSort signatures variables rows row sort →
        HaveSorts signatures variables rows others sorts →
        HaveSorts signatures variables rows (row ∷ others) (sort ∷ sorts)

mutual
  -- The node is a formula that holds no forall: equations of rows of one sort, which is not Bool, and atoms, rows of
  -- sort Bool, under And and Or.
  pub data IsPlain (signatures : List Signature) (variables : List ℕ) (rows : List DraftRow)
      (nodes : List DraftNode) : ℕ → Type 0 where
    equation : {n left right sort : ℕ} {positive : Bool} → slice_get nodes n ≡ Some (Equal positive left right) →
        1 ≤ sort → HasSort signatures variables rows left sort → HasSort signatures variables rows right sort →
        IsPlain signatures variables rows nodes n
    atom : {n row : ℕ} {positive : Bool} → slice_get nodes n ≡ Some (Atom positive row) →
        HasSort signatures variables rows row 0 → IsPlain signatures variables rows nodes n
    each : {n : ℕ} {parts : List ℕ} → slice_get nodes n ≡ Some (And parts) →
        ArePlain signatures variables rows nodes parts → IsPlain signatures variables rows nodes n
    one : {n : ℕ} {parts : List ℕ} → slice_get nodes n ≡ Some (Or parts) →
        ArePlain signatures variables rows nodes parts → IsPlain signatures variables rows nodes n

  pub data ArePlain (signatures : List Signature) (variables : List ℕ) (rows : List DraftRow)
      (nodes : List DraftNode) : List ℕ → Type 0 where
    none : ArePlain signatures variables rows nodes []
    more : {n : ℕ} {others : List ℕ} → IsPlain signatures variables rows nodes n →
        ArePlain signatures variables rows nodes others → ArePlain signatures variables rows nodes (n ∷ others)

-- the row of a pattern, as a row of a formula
abbrev pub as_row : PatternRow → DraftRow
as_row (pattern.Var index) = Var index
as_row (pattern.App symbol parts) = App symbol parts

-- each row of the trigger has a sort
abbrev pub IsSortedTrigger : List Signature → List ℕ → Trigger → Type 0
IsSortedTrigger signatures variables trigger = (row : ℕ) → row < length trigger.rows → (sort : ℕ) ×
    HasSort signatures variables (map as_row trigger.rows) row sort

-- The variables of a forall have sorts, of which none is Bool, by which its body is a formula that holds no forall,
-- and the rows of its triggers have sorts.
pub record IsSorted (signatures : List Signature) (rows : List DraftRow) (nodes : List DraftNode)
    (forall : DraftForall) : Type 0 where
  pub sorts : List ℕ
  pub count : length sorts ≡ forall.variables
  pub others : All (λ sort. 1 ≤ sort) sorts
  pub body : IsPlain signatures sorts rows nodes forall.body
  pub triggers : All (IsSortedTrigger signatures sorts) forall.triggers

mutual
  -- The node is a formula: a plain one, or a forall, or And and Or of formulas.
  pub data IsTruth (signatures : List Signature) (variables : List ℕ) (rows : List DraftRow) (nodes : List DraftNode)
      (foralls : List DraftForall) : ℕ → Type 0 where
    plain : {n : ℕ} → IsPlain signatures variables rows nodes n → IsTruth signatures variables rows nodes foralls n
    each : {n : ℕ} {parts : List ℕ} → slice_get nodes n ≡ Some (And parts) →
        AreTruths signatures variables rows nodes foralls parts → IsTruth signatures variables rows nodes foralls n
    one : {n : ℕ} {parts : List ℕ} → slice_get nodes n ≡ Some (Or parts) →
        AreTruths signatures variables rows nodes foralls parts → IsTruth signatures variables rows nodes foralls n
    universal : {n index : ℕ} {forall : DraftForall} → slice_get nodes n ≡ Some (Forall index) →
        slice_get foralls index ≡ Some forall → IsSorted signatures rows nodes forall →
        IsTruth signatures variables rows nodes foralls n

  pub data AreTruths (signatures : List Signature) (variables : List ℕ) (rows : List DraftRow)
      (nodes : List DraftNode) (foralls : List DraftForall) : List ℕ → Type 0 where
    none : AreTruths signatures variables rows nodes foralls []
    more : {n : ℕ} {others : List ℕ} → IsTruth signatures variables rows nodes foralls n →
        AreTruths signatures variables rows nodes foralls others →
        AreTruths signatures variables rows nodes foralls (n ∷ others)
