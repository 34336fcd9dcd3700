-- What is kept of reached rows.
use Rattle.std.proofs.Common.{◌≡◌, ℕ, zero, suc, ◌+◌, ◌<◌, ◌≤◌, ⊎_elim, Bool, true, false, cond, List, [], ◌∷◌, ◌++◌, map, take, length, get_or, slice_get, Some, refl, sym, ap, ap₂, ◌∙◌, length-append, arith}
use Rattle.std.proofs.lemmas.List.{get_or_append_left, take-append-le, take_all, length-map, map-append}
use Rattle.graph_trigger.specs.declared.pattern_row.PatternRow.{PatternRow}
use Rattle.graph_trigger.specs.declared.trigger.Trigger.{Trigger}
use Rattle.formula_draft.specs.declared.draft_row.DraftRow.{DraftRow}
use Rattle.formula_draft.specs.declared.draft_row.DraftRow.TheVariants.{Var}
use Rattle.smt_patterns.specs.Patterns.{Kept, renumbered, numbered, kept_if, kept_after, reached_from, trigger_of}
use Rattle.smt_patterns.specs.Places.{places_below, numbers_below, kept_row}
use Rattle.smt_patterns.proofs.PatternLemmas.{take_at, get_at, at_place}
use Rattle.smt_patterns.proofs.PlaceLemmas.{below_or_not, less_or_same, all_below, get_behind, found_marked, marked_found, place_count, front_of}

pub numbers_length : (n : ℕ) (marks : List Bool) → length (numbers_below n marks) ≡ n
numbers_length zero marks = refl
numbers_length (suc n) marks = let last = cond (get_or marks n false) (length (places_below n marks)) 0 in omega (arith, length-append (numbers_below n marks) (last ∷ []), numbers_length n marks)

get_past : (xs : List ℕ) (i : ℕ) → length xs ≤ i → get_or xs i 0 ≡ 0
get_past [] i past = refl
get_past (x ∷ xs) zero past = absurd (omega (arith, past))
get_past (x ∷ xs) (suc i) past = get_past xs i (omega (arith, past))

-- the new number of a place
number_at : (n place : ℕ) (marks : List Bool) → place < n → get_or (numbers_below n marks) place 0 ≡ cond (get_or marks place false) (length (places_below place marks)) 0
number_at zero place marks before = absurd (omega (arith, before))
number_at (suc n) place marks before = let last = cond (get_or marks n false) (length (places_below n marks)) 0 in ⊎_elim
    (λ (same : place ≡ n). get_behind (numbers_below n marks) last place 0 (omega (arith, same, numbers_length n marks)) ∙ ap (λ (k : ℕ). cond (get_or marks k false) (length (places_below k marks)) 0) (sym same))
    (λ (less : place < n). get_or_append_left (numbers_below n marks) (last ∷ []) 0 place (omega (arith, less, numbers_length n marks)) ∙ number_at n place marks less)
    (less_or_same place n (omega (arith, before)))

module _ (n place i : ℕ) (marks : List Bool) (places : List ℕ) (are : places ≡ places_below n marks) (count : place ≤ n → i ≡ length (places_below place marks)) where
  -- a place that is found has its place as its number
  pub number_found : i < length places → get_or places i 0 ≡ place → i ≡ get_or (numbers_below n marks) place 0
  number_found within is =
      let before : place < n = omega (arith, sym (ap (λ (xs : List ℕ). get_or xs i 0) are) ∙ is, all_below n marks i 0 (omega (arith, within, ap (λ (xs : List ℕ). length xs) are))) in
      let at : i ≡ length (places_below place marks) = count (omega (arith, before)) in
      at ∙ sym (number_at n place marks before ∙ ap (λ (b : Bool). cond b (length (places_below place marks)) 0) (found_marked n place i marks places before are at within is))

  -- and one that is not has 0
  pub number_none : (i < length places → get_or places i 0 ≡ place → ⊥) → 0 ≡ get_or (numbers_below n marks) place 0
  number_none other = ⊎_elim
      (λ (before : place < n). by before (get_or marks place false) refl)
      (λ (past : n ≤ place). sym (get_past (numbers_below n marks) place (omega (arith, past, numbers_length n marks))))
      (below_or_not place n)
    where
      by : place < n → (b : Bool) → get_or marks place false ≡ b → 0 ≡ get_or (numbers_below n marks) place 0
      by before true e = let found = marked_found n place i marks places before are (count (omega (arith, before))) e in absurd (other found.0 found.1)
      by before false e = sym (number_at n place marks before ∙ ap (λ (b : Bool). cond b (length (places_below place marks)) 0) e)

-- the places before one of them are those below it
pub places_before : (n i place : ℕ) (marks : List Bool) (places : List ℕ) → places ≡ places_below n marks → i < length places → get_or places i 0 ≡ place → take i places ≡ places_below place marks
places_before n i place marks places are within is =
    let before : place < n = omega (arith, sym (ap (λ (xs : List ℕ). get_or xs i 0) are) ∙ is, all_below n marks i 0 (omega (arith, within, ap (λ (xs : List ℕ). length xs) are))) in
    let count : i ≡ length (places_below place marks) = place_count n place i marks places before are within is in
    let front = front_of n place marks (omega (arith, before)) in
    let first = places_below place marks in
    ap (take i) (are ∙ front.is) ∙ take-append-le i first front.rest (omega (arith, count)) ∙ take_all i first (omega (arith, count))

-- rows that are kept, one behind another
kept_push : (marks : List Bool) (kept : Kept) (xs : List DraftRow) (y : DraftRow) → kept_after marks kept (xs ++ y ∷ []) ≡ kept_if (get_or marks (length (kept_after marks kept xs).numbers) false) (kept_after marks kept xs) y
kept_push marks kept [] y = refl
kept_push marks kept (x ∷ xs) y = kept_push marks (kept_if (get_or marks (length kept.numbers) false) kept x) xs y

abbrev kept_none : Kept
kept_none = record { numbers = []; rows = [] }

module _ (rows : List DraftRow) (marks : List Bool) where
  -- so many rows were passed
  abbrev so_far : ℕ → Kept
  so_far n = record { numbers = numbers_below n marks; rows = map (kept_row rows marks) (places_below n marks) }

  kept_more : (n : ℕ) (row : DraftRow) → slice_get rows n ≡ Some row → kept_if (get_or marks (length (numbers_below n marks)) false) (so_far n) row ≡ so_far (suc n)
  kept_more n row at = ap (λ (k : ℕ). kept_if (get_or marks k false) (so_far n) row) (numbers_length n marks) ∙ by (get_or marks n false)
    where
      by : (b : Bool) → kept_if b (so_far n) row ≡ record { numbers = numbers_below n marks ++ cond b (length (places_below n marks)) 0 ∷ []; rows = map (kept_row rows marks) (cond b (places_below n marks ++ n ∷ []) (places_below n marks)) }
      by false = refl
      by true = ap₂ (λ (ns : List ℕ) (rs : List PatternRow). let kept : Kept = record { numbers = ns; rows = rs } in kept)
          (ap (λ (k : ℕ). numbers_below n marks ++ k ∷ []) (length-map (places_below n marks) (kept_row rows marks)))
          (ap (λ (r : DraftRow). map (kept_row rows marks) (places_below n marks) ++ renumbered (numbers_below n marks) r ∷ []) (sym (get_at rows n row (Var 0) at))
          ∙ sym (map-append (kept_row rows marks) (places_below n marks) (n ∷ [])))

  kept_front : (n : ℕ) → n ≤ length rows → kept_after marks kept_none (take n rows) ≡ so_far n
  kept_front zero within = refl
  kept_front (suc n) within =
      let row = at_place rows n (omega (arith, within)) in
      ap (λ (k : ℕ). kept_after marks kept_none (take k rows)) one
      ∙ ap (kept_after marks kept_none) (take_at rows n row.0 row.1)
      ∙ kept_push marks kept_none (take n rows) row.0
      ∙ ap (λ (kept : Kept). kept_if (get_or marks (length kept.numbers) false) kept row.0) (kept_front n (omega (arith, within)))
      ∙ kept_more n row.0 row.1
    where
      one : suc n ≡ n + 1
      one = omega arith

  kept_rows : kept_after marks kept_none rows ≡ so_far (length rows)
  kept_rows = ap (kept_after marks kept_none) (sym (take_all (length rows) rows (omega arith))) ∙ kept_front (length rows) (omega arith)

-- the trigger of what is kept
pub trigger_is : (variables : ℕ) (rows : List DraftRow) (roots places new_roots : List ℕ) (new_rows : List PatternRow)
    → places ≡ places_below (length rows) (reached_from rows roots)
    → ((marks : List Bool) (all : ℕ) → places ≡ places_below all marks → new_rows ≡ map (kept_row rows marks) places)
    → ((marks : List Bool) (all : ℕ) → places ≡ places_below all marks → new_roots ≡ numbered (numbers_below all marks) roots)
    → record { forall = 0; place = 0; variables = variables; rows = new_rows; roots = new_roots } ≡ trigger_of variables rows roots
trigger_is variables rows roots places new_roots new_rows are rows_are roots_are =
    let marks = reached_from rows roots in
    let kept = kept_rows rows marks in
    ap₂ (λ (rs : List PatternRow) (ns : List ℕ). let t : Trigger = record { forall = 0; place = 0; variables = variables; rows = rs; roots = ns } in t)
    (rows_are marks (length rows) are ∙ ap (map (kept_row rows marks)) are ∙ sym (ap (λ (k : Kept). k.rows) kept))
    (roots_are marks (length rows) are ∙ sym (ap (λ (k : Kept). numbered k.numbers roots) kept))
