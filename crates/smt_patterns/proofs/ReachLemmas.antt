-- Rows that are reached, by the places that are marked.
use Rattle.std.proofs.Common.{◌≡◌, ℕ, zero, suc, ◌-◌, ◌<◌, ◌≤◌, ⊎_elim, Bool, true, false, cond, List, [], ◌∷◌, ◌++◌, length, get_or, slice_set, replicate, None, Some, refl, sym, ap, subst, ◌∙◌, length-append, arith}
use Rattle.std.proofs.lemmas.List.{get_or_append_left}
use Rattle.formula_draft.specs.declared.draft_row.DraftRow.{DraftRow}
use Rattle.formula_draft.specs.declared.draft_row.DraftRow.TheVariants.{Var}
use Rattle.formula_draft.specs.DraftRow.{args_of}
use Rattle.smt_patterns.specs.Patterns.{marked, spread, reached_below, reached_from}
use Rattle.smt_patterns.specs.Places.{places_below, Marks, IsLastBelow}
use Rattle.smt_patterns.proofs.PlaceLemmas.{less_or_same, front_of, get_behind, set_length}

-- the last place below a bound
record Last (bound n : ℕ) (marks : List Bool) : Type 0 where
  below : n < bound
  is_marked : get_or marks n false ≡ true
  same : places_below bound marks ≡ places_below (suc n) marks

last_at : (bound : ℕ) (marks : List Bool) (i : ℕ) → suc i ≡ length (places_below bound marks) → Last bound (get_or (places_below bound marks) i 0) marks
last_at zero marks i is = absurd (omega (arith, is))
last_at (suc b) marks i is = by (last_at b marks i) (get_or marks b false) refl is
  where
    by : (suc i ≡ length (places_below b marks) → Last b (get_or (places_below b marks) i 0) marks) → (m : Bool) → get_or marks b false ≡ m → suc i ≡ length (cond m (places_below b marks ++ b ∷ []) (places_below b marks)) → Last (suc b) (get_or (cond m (places_below b marks ++ b ∷ []) (places_below b marks)) i 0) marks
    by rest true e long = subst (λ (n : ℕ). Last (suc b) n marks) (sym (get_behind (places_below b marks) b i 0 (omega (arith, long, length-append (places_below b marks) (b ∷ [])))))
        (record { below = omega arith; is_marked = e; same = refl })
    by rest false e long = let last = rest long in
        record { below = omega (arith, last.below); is_marked = last.is_marked; same = ap (λ (m : Bool). cond m (places_below b marks ++ b ∷ []) (places_below b marks)) e ∙ last.same }

pub last_none : (bound count : ℕ) (marks : List Bool) → count ≡ length (places_below bound marks) → count ≡ 0 → IsLastBelow marks bound None
last_none bound count marks is none = empty (places_below bound marks) (omega (arith, is, none))
  where
    empty : (xs : List ℕ) → length xs ≡ 0 → xs ≡ []
    empty [] long = refl
    empty (x ∷ xs) long = absurd (omega (arith, long))

pub last_some : (rows bound count n : ℕ) (marks : List Bool) (places : List ℕ) → bound ≤ rows → places ≡ places_below rows marks → count ≡ length (places_below bound marks) → 0 < count → n ≡ get_or places (count - 1) 0 → IsLastBelow marks bound (Some n)
last_some rows bound count n marks places within are is some n_is =
    let front = front_of rows bound marks within in
    let first = places_below bound marks in
    let last = last_at bound marks (count - 1) (omega (arith, is, some)) in
    let same : n ≡ get_or first (count - 1) 0 = n_is ∙ ap (λ (xs : List ℕ). get_or xs (count - 1) 0) (are ∙ front.is) ∙ get_or_append_left first front.rest 0 (count - 1) (omega (arith, is, some)) in
    subst (λ (k : ℕ). IsLastBelow marks bound (Some k)) (sym same) (last.below, last.is_marked, last.same)

-- rows between two numbers where none is marked mark nothing
pub skip : (from n : ℕ) (marks : List Bool) (rows : List DraftRow) → n ≤ from → places_below from marks ≡ places_below n marks → reached_below from rows marks ≡ reached_below n rows marks
skip zero zero marks rows le same = refl
skip zero (suc n) marks rows le same = absurd (omega (arith, le))
skip (suc f) n marks rows le same = ⊎_elim
    (λ (is : n ≡ suc f). ap (λ (k : ℕ). reached_below k rows marks) (sym is))
    (λ (less : n < suc f). let below : n ≤ f = omega (arith, less) in by (λ kept. skip f n marks rows below kept) below (get_or marks f false) refl)
    (less_or_same n (suc f) le)
  where
    by : (places_below f marks ≡ places_below n marks → reached_below f rows marks ≡ reached_below n rows marks) → n ≤ f → (b : Bool) → get_or marks f false ≡ b → reached_below (suc f) rows marks ≡ reached_below n rows marks
    by rest below true e =
        let front = front_of f n marks below in
        let longer = ap (λ (xs : List ℕ). length xs) (sym (ap (λ (b : Bool). cond b (places_below f marks ++ f ∷ []) (places_below f marks)) e) ∙ same) in
        absurd (omega (arith, longer, length-append (places_below f marks) (f ∷ []), ap (λ (xs : List ℕ). length xs) front.is, length-append (places_below n marks) front.rest))
    by rest below false e =
        ap (λ (b : Bool). reached_below f rows (spread b (args_of (get_or rows f (Var 0))) marks)) e
        ∙ rest (sym (ap (λ (b : Bool). cond b (places_below f marks ++ f ∷ []) (places_below f marks)) e) ∙ same)

-- a marked row marks its arguments
pub spread_next : (n : ℕ) (marks : List Bool) (rows : List DraftRow) → get_or marks n false ≡ true → reached_below (suc n) rows marks ≡ reached_below n rows (marked (args_of (get_or rows n (Var 0))) marks)
spread_next n marks rows e = ap (λ (b : Bool). reached_below n rows (spread b (args_of (get_or rows n (Var 0))) marks)) e

pub marked_length : (ns : List ℕ) (marks : List Bool) → length (marked ns marks) ≡ length marks
marked_length [] marks = refl
marked_length (n ∷ ns) marks = marked_length ns (slice_set marks n true) ∙ set_length marks n

pub marked_push : (ns : List ℕ) (n : ℕ) (marks : List Bool) → marked (ns ++ n ∷ []) marks ≡ slice_set (marked ns marks) n true
marked_push [] n marks = refl
marked_push (m ∷ ns) n marks = marked_push ns n (slice_set marks m true)

-- nothing is marked at first
no_places : (n rows : ℕ) → places_below n (replicate rows false) ≡ []
no_places zero rows = refl
no_places (suc n) rows = ap (λ (b : Bool). cond b (places_below n (replicate rows false) ++ n ∷ []) (places_below n (replicate rows false))) (none rows n) ∙ no_places n rows
  where
    none : (rows i : ℕ) → get_or (replicate rows false) i false ≡ false
    none zero i = refl
    none (suc rows) zero = refl
    none (suc rows) (suc i) = none rows i

length_none : (n : ℕ) → length (replicate n false) ≡ n
length_none zero = refl
length_none (suc n) = ap suc (length_none n)

-- What is so of the places when the rows from a number on were passed.
pub record Passed (rows : List DraftRow) (roots places : List ℕ) (left : ℕ) : Type 0 where
  pub marks : List Bool
  pub long : length marks ≡ length rows
  pub are : places ≡ places_below (length rows) marks
  pub rest : reached_below left rows marks ≡ reached_from rows roots
  pub within : left ≤ length rows

-- the roots are marked
pub passed_none : (rows : List DraftRow) (roots places : List ℕ) → Marks (length rows) [] places (λ marks. marked roots marks) → Passed rows roots places (length rows)
passed_none rows roots places marks =
    let none = replicate (length rows) false in
    record {
      marks = marked roots none;
      long = marked_length roots none ∙ length_none (length rows);
      are = marks none (length_none (length rows)) (sym (no_places (length rows) (length rows)));
      rest = refl;
      within = omega arith;
    }

module _ (rows : List DraftRow) (roots places : List ℕ) (left : ℕ) (passed : Passed rows roots places left) where
  -- the last place below is passed
  pub passed_below : (n : ℕ) → ((marks : List Bool) (all : ℕ) → left ≤ all → places ≡ places_below all marks → IsLastBelow marks left (Some n)) → n < left
  passed_below n last = (last passed.marks (length rows) passed.within passed.are).0

  pub passed_next : (n : ℕ) (new : List ℕ) → ((marks : List Bool) (all : ℕ) → left ≤ all → places ≡ places_below all marks → IsLastBelow marks left (Some n))
      → Marks (length rows) places new (λ marks. marked (args_of (get_or rows n (Var 0))) marks) → Passed rows roots new n
  passed_next n new last marks =
      let is = last passed.marks (length rows) passed.within passed.are in
      let args = args_of (get_or rows n (Var 0)) in
      record {
        marks = marked args passed.marks;
        long = marked_length args passed.marks ∙ passed.long;
        are = marks passed.marks passed.long passed.are;
        rest = sym (skip left (suc n) passed.marks rows (omega (arith, is.0)) is.2 ∙ spread_next n passed.marks rows is.1) ∙ passed.rest;
        within = omega (arith, is.0, passed.within);
      }

  -- no place is left to pass
  pub passed_all : ((marks : List Bool) (all : ℕ) → left ≤ all → places ≡ places_below all marks → IsLastBelow marks left None) → places ≡ places_below (length rows) (reached_from rows roots)
  passed_all none = passed.are ∙ ap (places_below (length rows)) (sym (skip left 0 passed.marks rows (omega arith) (none passed.marks (length rows) passed.within passed.are)) ∙ passed.rest)
