-- The rows of a trigger, and how large a pattern is.
use Rattle.std.specs.Prelude.{ℕ, zero, suc, Bool, true, false, ◌==◌, List}
use Rattle.std.specs.Prelude.{[], ◌∷◌, ◌++◌, map, length, get_or, slice_set, replicate, sum_by}
use Rattle.std.specs.List.{list_any}
use Rattle.formula_draft.specs.declared.draft_row.DraftRow.{DraftRow}
use Rattle.formula_draft.specs.declared.draft_row.DraftRow.TheVariants.{Var, App}
use Rattle.formula_draft.specs.DraftRow.{args_of}
use Rattle.graph_trigger.specs.declared.pattern_row.PatternRow.{PatternRow}
use Rattle.graph_trigger.specs.declared.pattern_row.PatternRow.TheVariants as pattern
use Rattle.graph_trigger.specs.declared.trigger.Trigger.{Trigger}

-- how many symbols and variables each row has as a tree, after the sizes of those before it
abbrev pub sizes_after : List ℕ → List DraftRow → List ℕ
sizes_after sizes [] = sizes
sizes_after sizes (next ∷ rows) = sizes_after (sizes ++ suc (sum_by (λ arg. get_or sizes arg 0) (args_of next)) ∷ [])
    rows

-- how many symbols and variables a row has as a tree
abbrev pub size_of : List DraftRow → ℕ → ℕ
size_of rows row = get_or (sizes_after [] rows) row 0

-- with these places marked
abbrev pub marked : List ℕ → List Bool → List Bool
marked [] marks = marks
marked (n ∷ ns) marks = marked ns (slice_set marks n true)

-- with the arguments of a row marked, where the row is
abbrev pub spread : Bool → List ℕ → List Bool → List Bool
spread true args marks = marked args marks
spread false args marks = marks

-- the rows that are reached from marked ones, going down from a number; arguments stand before what they are
-- arguments of
abbrev pub reached_below : ℕ → List DraftRow → List Bool → List Bool
reached_below zero rows marks = marks
reached_below (suc n) rows marks = reached_below n rows
    (spread (get_or marks n false) (args_of (get_or rows n (Var 0))) marks)

-- which rows are reached from these roots
abbrev pub reached_from : List DraftRow → List ℕ → List Bool
reached_from rows roots = reached_below (length rows) rows (marked roots (replicate (length rows) false))

-- some rows numbered anew: the new number of each row so far, and the rows that are kept
pub record Kept : Type 0 where
  pub numbers : List ℕ
  pub rows : List PatternRow

-- the new numbers of some rows
abbrev pub numbered : List ℕ → List ℕ → List ℕ
numbered numbers rows = map (λ row. get_or numbers row 0) rows

-- a row with new numbers
abbrev pub renumbered : List ℕ → DraftRow → PatternRow
renumbered numbers (Var index) = pattern.Var index
renumbered numbers (App symbol args) = pattern.App symbol (numbered numbers args)

-- one row more, which is kept where it is reached
abbrev pub kept_if : Bool → Kept → DraftRow → Kept
kept_if true kept row = record {
  numbers = kept.numbers ++ length kept.rows ∷ [];
  rows = kept.rows ++ renumbered kept.numbers row ∷ [];
}
kept_if false kept row = record kept { numbers = kept.numbers ++ 0 ∷ [] }

-- the reached rows, in the order in which they stand
abbrev pub kept_after : List Bool → Kept → List DraftRow → Kept
kept_after marks kept [] = kept
kept_after marks kept (row ∷ rows) = kept_after marks (kept_if (get_or marks (length kept.numbers) false) kept row)
    rows

-- the rows of these that the roots reach
abbrev pub kept_of : List DraftRow → List ℕ → Kept
kept_of rows roots = kept_after (reached_from rows roots) (record { numbers = []; rows = [] }) rows

-- The trigger of these roots, with so many variables. It is numbered where the formula is entered.
abbrev pub trigger_of : ℕ → List DraftRow → List ℕ → Trigger
trigger_of variables rows roots = let kept = kept_of rows roots in
    record { forall = 0; place = 0; variables = variables; rows = kept.rows; roots = numbered kept.numbers roots }

-- the row is this variable
abbrev pub is_variable : ℕ → PatternRow → Bool
is_variable index (pattern.Var i) = i == index
is_variable index (pattern.App symbol args) = false

-- the variable occurs in the trigger
abbrev pub occurs : Trigger → ℕ → Bool
occurs trigger index = list_any (is_variable index) trigger.rows
