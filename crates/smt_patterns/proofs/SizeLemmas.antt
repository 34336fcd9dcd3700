-- How large patterns are.
use Rattle.std.proofs.Common.{◌≡◌, ℕ, zero, suc, ◌+◌, ◌-◌, ◌<◌, ◌≤◌, List, [], ◌∷◌, ◌++◌, take, drop, length, get_or, slice_get, Some, sum_by, refl, sym, ap, ◌∙◌, append_assoc, append-nil, length-append, arith}
use Rattle.std.proofs.lemmas.List.{take-append-drop, length-take-le, take_all}
use Rattle.std.proofs.lemmas.List.Sums.{sum_by_push, sum_by-take-le}
use Rattle.formula_draft.specs.declared.draft_row.DraftRow.{DraftRow}
use Rattle.formula_draft.specs.declared.draft_row.DraftRow.TheVariants.{Var, App}
use Rattle.formula_draft.specs.DraftRow.{args_of}
use Rattle.smt_patterns.specs.Patterns.{sizes_after, size_of}
use Rattle.smt_patterns.proofs.PatternLemmas.{take_at, drop_at, at_place}

-- the size of a row by those of the rows before it
abbrev size_by : List ℕ → DraftRow → ℕ
size_by sizes row = suc (sum_by (λ (arg : ℕ). get_or sizes arg 0) (args_of row))

sizes_apart : (sizes : List ℕ) (xs ys : List DraftRow) → sizes_after sizes (xs ++ ys) ≡ sizes_after (sizes_after sizes xs) ys
sizes_apart sizes [] ys = refl
sizes_apart sizes (x ∷ xs) ys = sizes_apart (sizes ++ size_by sizes x ∷ []) xs ys

sizes_length : (sizes : List ℕ) (xs : List DraftRow) → length (sizes_after sizes xs) ≡ length sizes + length xs
sizes_length sizes [] = omega arith
sizes_length sizes (x ∷ xs) = omega (arith, sizes_length (sizes ++ size_by sizes x ∷ []) xs, length-append sizes (size_by sizes x ∷ []))

-- sizes keep their places
sizes_keep : (sizes : List ℕ) (xs : List DraftRow) → (more : List ℕ) × (sizes_after sizes xs ≡ sizes ++ more)
sizes_keep sizes [] = ([], sym (append-nil sizes))
sizes_keep sizes (x ∷ xs) = let rest = sizes_keep (sizes ++ size_by sizes x ∷ []) xs in (size_by sizes x ∷ rest.0, rest.1 ∙ append_assoc sizes (size_by sizes x ∷ []) rest.0)

get_front : (xs ys : List ℕ) (i : ℕ) → i < length xs → get_or (xs ++ ys) i 0 ≡ get_or xs i 0
get_front [] ys i within = absurd (omega (arith, within))
get_front (x ∷ xs) ys zero within = refl
get_front (x ∷ xs) ys (suc i) within = get_front xs ys i (omega (arith, within))

get_last : (xs : List ℕ) (y : ℕ) (ys : List ℕ) (i : ℕ) → length xs ≡ i → get_or (xs ++ y ∷ ys) i 0 ≡ y
get_last [] y ys zero is = refl
get_last [] y ys (suc i) is = absurd (omega (arith, is))
get_last (x ∷ xs) y ys zero is = absurd (omega (arith, is))
get_last (x ∷ xs) y ys (suc i) is = get_last xs y ys i (omega (arith, is))

get_past : (xs : List ℕ) (i : ℕ) → length xs ≤ i → get_or xs i 0 ≡ 0
get_past [] i past = refl
get_past (x ∷ xs) zero past = absurd (omega (arith, past))
get_past (x ∷ xs) (suc i) past = get_past xs i (omega (arith, past))

-- what an argument of a row counts: its size among the rows before
abbrev pub counted : List DraftRow → ℕ → ℕ → ℕ
counted rows row arg = get_or (sizes_after [] (take row rows)) arg 0

module _ (rows : List DraftRow) (row : ℕ) (within : row < length rows) where
  -- the sizes of the rows before it
  abbrev front : List ℕ
  front = sizes_after [] (take row rows)

  front_length : length front ≡ row
  front_length = omega (arith, sizes_length [] (take row rows), length-take-le row rows (omega (arith, within)))

  -- an earlier row counts its size, and one that isn't earlier counts nothing
  pub counted_below : (arg : ℕ) → arg < row → counted rows row arg ≡ size_of rows arg
  counted_below arg below =
      let keep = sizes_keep front (drop row rows) in
      sym (ap (λ (all : List DraftRow). size_of all arg) (sym (take-append-drop row rows))
      ∙ ap (λ (sizes : List ℕ). get_or sizes arg 0) (sizes_apart [] (take row rows) (drop row rows) ∙ keep.1)
      ∙ get_front front keep.0 arg (omega (arith, below, front_length)))

  pub counted_past : (arg : ℕ) → row ≤ arg → counted rows row arg ≡ 0
  counted_past arg past = get_past front arg (omega (arith, past, front_length))

  module _ (at : DraftRow) (stands : slice_get rows row ≡ Some at) where
    -- the size of the row
    pub size_is : size_of rows row ≡ suc (sum_by (counted rows row) (args_of at))
    size_is =
        let behind = drop (row + 1) rows in
        let more = sizes_keep (front ++ size_by front at ∷ []) behind in
        ap (λ (all : List DraftRow). size_of all row) (sym (take-append-drop row rows))
        ∙ ap (λ (sizes : List ℕ). get_or sizes row 0) (sizes_apart [] (take row rows) (drop row rows) ∙ ap (sizes_after front) (drop_at rows row at stands) ∙ more.1 ∙ append_assoc front (size_by front at ∷ []) more.0)
        ∙ get_last front (size_by front at) more.0 row front_length

-- one argument more is counted
more_counted : (f : ℕ → ℕ) (args : List ℕ) (i arg : ℕ) → slice_get args i ≡ Some arg → suc (sum_by f (take (i + 1) args)) ≡ suc (sum_by f (take i args)) + f arg
more_counted f args i arg at = ap (λ (xs : List ℕ). suc (sum_by f xs)) (take_at args i arg at) ∙ ap suc (sum_by_push f (take i args) arg) ∙ swap (sum_by f (take i args)) (f arg)
  where
    swap : (a b : ℕ) → suc (a + b) ≡ suc a + b
    swap a b = omega arith

-- what is counted is no more than all
counted_most : (f : ℕ → ℕ) (args : List ℕ) (i : ℕ) → suc (sum_by f (take i args)) ≤ suc (sum_by f args)
counted_most f args i = omega (arith, sum_by-take-le f args i)

-- a row that does not stand counts nothing
pub size_past : (rows : List DraftRow) (row : ℕ) → length rows ≤ row → size_of rows row ≡ 0
size_past rows row past = get_past (sizes_after [] rows) row (omega (arith, past, sizes_length [] rows))

module _ (rows : List DraftRow) (row : ℕ) (within : row < length rows) where
  -- a row that stands counts at least itself
  pub size_some : 0 < size_of rows row
  size_some = let at = at_place rows row within in omega (arith, size_is rows row within at.0 at.1)

  pub size_variable : (index : ℕ) → slice_get rows row ≡ Some (Var index) → 1 ≡ size_of rows row
  size_variable index at = sym (size_is rows row within (Var index) at)

  -- an application, some of whose arguments are counted
  module _ (symbol : ℕ) (args : List ℕ) (at : slice_get rows row ≡ Some (App symbol args)) (i size : ℕ) where
    pub size_all : size ≡ suc (sum_by (counted rows row) (take i args)) → length args ≤ i → size ≡ size_of rows row
    size_all is all = is ∙ ap (λ (xs : List ℕ). suc (sum_by (counted rows row) xs)) (take_all i args all) ∙ sym (size_is rows row within (App symbol args) at)

    module _ (part : ℕ) (stands : slice_get args i ≡ Some part) (is : size ≡ suc (sum_by (counted rows row) (take i args))) where
      next : suc (sum_by (counted rows row) (take (i + 1) args)) ≡ size + counted rows row part
      next = more_counted (counted rows row) args i part stands ∙ ap (λ (n : ℕ). n + counted rows row part) (sym is)

      -- one that is no earlier row counts nothing
      pub size_same : row ≤ part → size ≡ suc (sum_by (counted rows row) (take (i + 1) args))
      size_same past = omega (arith, next, counted_past rows row within part past)

      -- and an earlier one its size
      pub size_more : part < row → (of_part : ℕ) → of_part ≡ size_of rows part → size + of_part ≡ suc (sum_by (counted rows row) (take (i + 1) args))
      size_more below of_part counted_is = omega (arith, next, counted_is, counted_below rows row within part below)

      -- of which there is too much
      pub size_large : (most : ℕ) → size ≤ most → part < row → most - size < size_of rows part → most < size_of rows row
      size_large most fits below large =
          omega (arith, next, fits, large, counted_below rows row within part below, counted_most (counted rows row) args (i + 1), size_is rows row within (App symbol args) at)
