-- Roots of triggers, and what a valid trigger is made of.
use Rattle.std.proofs.Common.{◌≡◌, ℕ, zero, suc, ◌+◌, ◌<◌, ◌≤◌, true, List, [], ◌∷◌, ◌++◌, length, get_or, slice_get, sum_by, Some, refl, sym, ap, ◌∙◌, length-append, append_assoc, append-nil, arith}
use Rattle.graph_trigger.specs.Trigger.{IsValid, most_size, most_patterns, most_variables}
use Rattle.formula_draft.specs.declared.draft_row.DraftRow.{DraftRow}
use Rattle.formula_draft.specs.declared.draft_row.DraftRow.TheVariants.{App}
use Rattle.formula_draft.specs.DraftRow.{args_of}
use Rattle.formula_draft.specs.Draft.{Draft, IsDraft}
use Rattle.smt_patterns.specs.Patterns.{sizes_after, size_of, trigger_of, occurs}
use Rattle.formula_draft.specs.Sorted.{Signature, HasSort, IsSortedTrigger}
use Rattle.smt_laws.proofs.Values.{Each}

-- the size of a row by those of the rows before it
abbrev pub size_by : List ℕ → DraftRow → ℕ
size_by sizes row = suc (sum_by (λ arg. get_or sizes arg 0) (args_of row))

pub sizes_apart : (sizes : List ℕ) (xs ys : List DraftRow) → sizes_after sizes (xs ++ ys) ≡ sizes_after (sizes_after sizes xs) ys
sizes_apart sizes [] ys = refl
sizes_apart sizes (x ∷ xs) ys = sizes_apart (sizes ++ size_by sizes x ∷ []) xs ys

pub sizes_length : (sizes : List ℕ) (xs : List DraftRow) → length (sizes_after sizes xs) ≡ length sizes + length xs
sizes_length sizes [] = omega arith
sizes_length sizes (x ∷ xs) = omega (arith, sizes_length (sizes ++ size_by sizes x ∷ []) xs, length-append sizes (size_by sizes x ∷ []))

-- sizes keep their places
pub sizes_keep : (sizes : List ℕ) (xs : List DraftRow) → (more : List ℕ) × (sizes_after sizes xs ≡ sizes ++ more)
sizes_keep sizes [] = ([], sym (append-nil sizes))
sizes_keep sizes (x ∷ xs) = let rest = sizes_keep (sizes ++ size_by sizes x ∷ []) xs in (size_by sizes x ∷ rest.0, rest.1 ∙ append_assoc sizes (size_by sizes x ∷ []) rest.0)

pub get_front : (xs ys : List ℕ) (i : ℕ) → i < length xs → get_or (xs ++ ys) i 0 ≡ get_or xs i 0
get_front [] ys i within = absurd (omega (arith, within))
get_front (x ∷ xs) ys zero within = refl
get_front (x ∷ xs) ys (suc i) within = get_front xs ys i (omega (arith, within))

-- a row that stands has the same size when rows come
pub size_later : (rows more new : List DraftRow) (r : ℕ) → new ≡ rows ++ more → r < length rows → size_of new r ≡ size_of rows r
size_later rows more new r grew within =
    let front = sizes_after [] rows in
    let keep = sizes_keep front more in
    ap (λ (all : List DraftRow). size_of all r) grew ∙ ap (λ (sizes : List ℕ). get_or sizes r 0) (sizes_apart [] rows more ∙ keep.1) ∙ get_front front keep.0 r (omega (arith, within, sizes_length [] rows))

-- a root: an application that has a sort, of no more symbols and variables than a pattern may have
pub record IsRoot (functions : List Signature) (variables : List ℕ) (rows : List DraftRow) (r : ℕ) : Type 0 where
  pub symbol : ℕ
  pub args : List ℕ
  pub stands : slice_get rows r ≡ Some (App symbol args)
  pub sort : ℕ
  pub sorted : HasSort functions variables rows r sort
  pub small : size_of rows r ≤ most_size

-- triggers of roots are valid, and their rows have sorts
abbrev pub MakesValid : Type 0
MakesValid = (functions : List Signature) (variables : List ℕ) (draft : Draft) → IsDraft draft → (roots : List ℕ) → Each (IsRoot functions variables draft.rows) roots
    → 1 ≤ length roots → length roots ≤ most_patterns → length variables ≤ most_variables
    → ((index : ℕ) → index < length variables → occurs (trigger_of (length variables) draft.rows roots) index ≡ true)
    → IsValid (trigger_of (length variables) draft.rows roots) × IsSortedTrigger functions variables (trigger_of (length variables) draft.rows roots)
