-- The operations that stand, with their serials and the marks of open levels, and what they say.
use Rattle.std.specs.Prelude.{ℕ, ◌+◌, Bool, true, false, List, [], ◌∷◌, ◌++◌, Some, None, Option, take, count_by}
use Rattle.std.specs.List.{filter_map, before_last}
use Rattle.graph_terms.specs.declared.term_row.TermRow.{TermRow}
use Rattle.graph_trigger.specs.declared.trigger.Trigger.{Trigger}
use Rattle.graph_meaning.specs.declared.op.Op.{Op}
use Rattle.graph_meaning.specs.declared.done.Done.{Done}
use Rattle.graph_meaning.specs.declared.op.Op.TheVariants.{Add, Merge, Differ, Live, Push, Pop}
use Rattle.graph_terms.specs.Terms.{term_row, first_rows}

-- whether it opens a level
abbrev pub is_push : Done → Bool
is_push done = elim done.op [ Push ↦ true | _ ↦ false ]

-- the list with the operation at its end
abbrev pub then_op : List Done → ℕ → Op → List Done
then_op standing serial op = standing ++ record { serial = serial; op = op } ∷ []

-- the standing list after one operation more: a Pop takes away the last Push and all after it
abbrev pub standing_after : List Done → ℕ → Op → List Done
standing_after standing serial Pop = before_last is_push standing
standing_after standing serial op = then_op standing serial op

-- the standing list after further operations, of which the first has this serial
abbrev pub standing_from : List Done → ℕ → List Op → List Done
standing_from standing serial [] = standing
standing_from standing serial (op ∷ ops) = standing_from (standing_after standing serial op) (serial + 1) ops

-- the standing list of all operations that were done
abbrev pub standing_of : List Op → List Done
standing_of ops = standing_from [] 0 ops

-- the standing list of the first operations
abbrev pub version_of : List Op → ℕ → List Done
version_of ops count = standing_of (take count ops)

-- how many levels are open
abbrev pub levels_of : List Done → ℕ
levels_of standing = count_by is_push standing

-- the row that an operation adds
abbrev pub added_row : Done → Option TermRow
added_row done = elim done.op [ Add symbol args ↦ Some (term_row symbol args) | _ ↦ None ]

-- the ends that an operation merges
abbrev pub merged_ends : Done → Option (ℕ × ℕ)
merged_ends done = elim done.op [ Merge left right ↦ Some (left, right) | _ ↦ None ]

-- the ends that an operation keeps apart
abbrev pub different_ends : Done → Option (ℕ × ℕ)
different_ends done = elim done.op [ Differ left right ↦ Some (left, right) | _ ↦ None ]

-- the trigger that an operation makes live
abbrev pub live_trigger : Done → Option Trigger
live_trigger done = elim done.op [ Live trigger ↦ Some trigger | _ ↦ None ]

-- the terms, by number
abbrev pub terms_of : List Done → List TermRow
terms_of standing = first_rows ++ filter_map added_row standing

-- the live triggers, by number
abbrev pub triggers_of : List Done → List Trigger
triggers_of standing = filter_map live_trigger standing

-- the equations
abbrev pub merges_of : List Done → List (ℕ × ℕ)
merges_of standing = filter_map merged_ends standing

-- the disequations
abbrev pub differs_of : List Done → List (ℕ × ℕ)
differs_of standing = filter_map different_ends standing

-- the rows that an operation adds
abbrev pub rows_added : Op → List TermRow
rows_added op = elim op [ Add symbol args ↦ term_row symbol args ∷ [] | _ ↦ [] ]

-- the equations that an operation adds
abbrev pub merges_added : Op → List (ℕ × ℕ)
merges_added op = elim op [ Merge left right ↦ (left, right) ∷ [] | _ ↦ [] ]

-- the disequations that an operation adds
abbrev pub differs_added : Op → List (ℕ × ℕ)
differs_added op = elim op [ Differ left right ↦ (left, right) ∷ [] | _ ↦ [] ]

-- the triggers that an operation makes live
abbrev pub triggers_added : Op → List Trigger
triggers_added op = elim op [ Live trigger ↦ trigger ∷ [] | _ ↦ [] ]
