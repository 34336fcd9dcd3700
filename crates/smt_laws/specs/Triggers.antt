-- What a trigger is made of: the rows that its roots reach.
use Rattle.std.specs.Prelude.{◌≡◌, ℕ, ◌<◌, List, map, length, slice_get, Some, All, Contains}
use Rattle.graph_trigger.specs.declared.pattern_row.PatternRow.{PatternRow}
use Rattle.graph_trigger.specs.declared.pattern_row.PatternRow.TheVariants as pattern
use Rattle.graph_trigger.specs.declared.trigger.Trigger.{Trigger}
use Rattle.formula_draft.specs.declared.draft_row.DraftRow.{DraftRow}
use Rattle.formula_draft.specs.declared.draft_row.DraftRow.TheVariants.{Var, App}
use Rattle.formula_draft.specs.DraftRow.{args_of}
use Rattle.formula_draft.specs.Draft.{FitsRow}
use Rattle.smt_patterns.specs.Patterns.{trigger_of}

-- the row is a root, or an argument of a row that is reached
pub data IsReached (rows : List DraftRow) (roots : List ℕ) : ℕ → Type 0 where
  root : {row : ℕ} → Contains roots row → IsReached rows roots row
  argument : {row arg : ℕ} {at : DraftRow} → IsReached rows roots row → slice_get rows row ≡ Some at →
      Contains (args_of at) arg
      → IsReached rows roots arg

-- a row, with these numbers for its arguments
abbrev pub with_numbers : (number : ℕ → ℕ) → DraftRow → PatternRow
with_numbers number (Var index) = pattern.Var index
with_numbers number (App symbol args) = pattern.App symbol (map number args)

-- The rows of the trigger are the rows that the roots reach, each once, in their order and with its arguments in
-- their order, and its roots are those roots.
pub record IsTriggerOf (variables : ℕ) (rows : List DraftRow) (roots : List ℕ) (trigger : Trigger) : Type 0 where
  pub variables_are : trigger.variables ≡ variables
  pub number : ℕ → ℕ
  pub rising : (row other : ℕ) → IsReached rows roots row → IsReached rows roots other → row < other →
      number row < number other
  pub standing : (row : ℕ) (at : DraftRow) → IsReached rows roots row → slice_get rows row ≡ Some at
      → slice_get trigger.rows (number row) ≡ Some (with_numbers number at)
  pub only : (place : ℕ) → place < length trigger.rows → (row : ℕ) × IsReached rows roots row × (number row ≡ place)
  pub roots_are : trigger.roots ≡ map number roots

-- Where rows name earlier rows alone and the roots stand, the trigger of the roots is made of what they reach.
abbrev pub MakesTriggers : Type 0
MakesTriggers = (variables : ℕ) (rows : List DraftRow) (roots : List ℕ) →
    ((n : ℕ) (row : DraftRow) → slice_get rows n ≡ Some row → FitsRow n row)
    → All (λ root. root < length rows) roots → IsTriggerOf variables rows roots (trigger_of variables rows roots)
