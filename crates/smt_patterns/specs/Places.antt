-- The marked places of a formula's rows in order, and the new numbers by them: what the code holds in place of marks.
use Rattle.std.specs.Prelude.{◌≡◌, ℕ, zero, suc, ◌<◌, Bool, true, false, cond, List, [], ◌∷◌, ◌++◌}
use Rattle.std.specs.Prelude.{length, get_or, Option, Some, None}
use Rattle.graph_trigger.specs.declared.pattern_row.PatternRow.{PatternRow}
use Rattle.formula_draft.specs.declared.draft_row.DraftRow.{DraftRow}
use Rattle.formula_draft.specs.declared.draft_row.DraftRow.TheVariants.{Var}
use Rattle.smt_patterns.specs.Patterns.{renumbered}

-- the marked places below a number, in order
abbrev pub places_below : ℕ → List Bool → List ℕ
places_below zero marks = []
places_below (suc n) marks = cond (get_or marks n false) (places_below n marks ++ n ∷ []) (places_below n marks)

-- the new numbers of so many rows: how many rows before it are marked, and 0 for a row that is not
abbrev pub numbers_below : ℕ → List Bool → List ℕ
numbers_below zero marks = []
numbers_below (suc n) marks = numbers_below n marks
    ++ cond (get_or marks n false) (length (places_below n marks)) 0 ∷ []

-- the marked places of so many rows become those of the changed marks
abbrev pub Marks : (rows : ℕ) → (old new : List ℕ) → (List Bool → List Bool) → Type 0
Marks rows old new change = (marks : List Bool) → length marks ≡ rows → old ≡ places_below rows marks →
    new ≡ places_below rows (change marks)

-- the row that is kept of a place, with the new numbers of the rows before it
abbrev pub kept_row : List DraftRow → List Bool → ℕ → PatternRow
kept_row rows marks place = renumbered (numbers_below place marks) (get_or rows place (Var 0))

-- the last marked place below a bound, or that there is none
abbrev pub IsLastBelow : List Bool → ℕ → Option ℕ → Type 0
IsLastBelow marks bound None = places_below bound marks ≡ []
IsLastBelow marks bound (Some n) = (n < bound) × (get_or marks n false ≡ true)
    × (places_below bound marks ≡ places_below (suc n) marks)
