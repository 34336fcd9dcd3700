-- Which rows of a pattern are marked.
use Rattle.std.proofs.Common.{◌≡◌, ℕ, zero, suc, ◌<◌, ◌≤◌, ◌⊎◌, ⊎_elim, inl, inr, Bool, true, false, List, [], ◌∷◌, length, get_or, slice_get, slice_set, replicate, Some, refl, sym, ap, subst, ◌∙◌, true≢false, arith}
use Rattle.std.proofs.lemmas.Option.{none-some, same_Some, slice_get_within}
use Rattle.graph_terms.proofs.ListLaws.{All-slice_get}
use Rattle.formula_draft.specs.declared.draft_row.DraftRow.{DraftRow}
use Rattle.formula_draft.specs.declared.draft_row.DraftRow.TheVariants.{Var, App}
use Rattle.formula_draft.specs.DraftRow.{args_of}
use Rattle.formula_draft.specs.Draft.{FitsRow}
use Rattle.smt_patterns.specs.Patterns.{marked, spread, reached_below, reached_from}
use Rattle.smt_laws.proofs.Moving.{var_no_app}

-- the row is marked
abbrev pub Marked : List Bool → ℕ → Type 0
Marked marks i = get_or marks i false ≡ true

set_keeps : (marks : List Bool) (n i : ℕ) → Marked marks i → Marked (slice_set marks n true) i
set_keeps [] n i is = is
set_keeps (m ∷ marks) zero zero is = refl
set_keeps (m ∷ marks) zero (suc i) is = is
set_keeps (m ∷ marks) (suc n) zero is = is
set_keeps (m ∷ marks) (suc n) (suc i) is = set_keeps marks n i is

set_new : (marks : List Bool) (n : ℕ) → n < length marks → Marked (slice_set marks n true) n
set_new [] n within = absurd (omega (arith, within))
set_new (m ∷ marks) zero within = refl
set_new (m ∷ marks) (suc n) within = set_new marks n (omega (arith, within))

set_from : (marks : List Bool) (n i : ℕ) → Marked (slice_set marks n true) i → Marked marks i ⊎ (n ≡ i)
set_from [] n i is = inl is
set_from (m ∷ marks) zero zero is = inr refl
set_from (m ∷ marks) zero (suc i) is = inl is
set_from (m ∷ marks) (suc n) zero is = inl is
set_from (m ∷ marks) (suc n) (suc i) is = ⊎_elim inl (λ same. inr (ap suc same)) (set_from marks n i is)

set_length : (marks : List Bool) (n : ℕ) → length (slice_set marks n true) ≡ length marks
set_length [] n = refl
set_length (m ∷ marks) zero = refl
set_length (m ∷ marks) (suc n) = ap suc (set_length marks n)

marked_keeps : (ns : List ℕ) (marks : List Bool) (i : ℕ) → Marked marks i → Marked (marked ns marks) i
marked_keeps [] marks i is = is
marked_keeps (n ∷ ns) marks i is = marked_keeps ns (slice_set marks n true) i (set_keeps marks n i is)

marked_new : (ns : List ℕ) (marks : List Bool) (k n : ℕ) → slice_get ns k ≡ Some n → n < length marks → Marked (marked ns marks) n
marked_new [] marks k n at within = absurd (none-some n at)
marked_new (m ∷ ns) marks zero n at within = subst (λ j. Marked (marked ns (slice_set marks j true)) n) (sym (same_Some m n at)) (marked_keeps ns (slice_set marks n true) n (set_new marks n within))
marked_new (m ∷ ns) marks (suc k) n at within = marked_new ns (slice_set marks m true) k n at (omega (arith, within, set_length marks m))

marked_from : (ns : List ℕ) (marks : List Bool) (i : ℕ) → Marked (marked ns marks) i → Marked marks i ⊎ ((k : ℕ) × (slice_get ns k ≡ Some i))
marked_from [] marks i is = inl is
marked_from (n ∷ ns) marks i is = ⊎_elim (λ was. ⊎_elim inl (λ same. inr (0, ap Some same)) (set_from marks n i was)) (λ (p : (k : ℕ) × (slice_get ns k ≡ Some i)). inr (suc p.0, p.1)) (marked_from ns (slice_set marks n true) i is)

marked_length : (ns : List ℕ) (marks : List Bool) → length (marked ns marks) ≡ length marks
marked_length [] marks = refl
marked_length (n ∷ ns) marks = marked_length ns (slice_set marks n true) ∙ set_length marks n

spread_keeps : (b : Bool) (args : List ℕ) (marks : List Bool) (i : ℕ) → Marked marks i → Marked (spread b args marks) i
spread_keeps true args marks i is = marked_keeps args marks i is
spread_keeps false args marks i is = is

spread_length : (b : Bool) (args : List ℕ) (marks : List Bool) → length (spread b args marks) ≡ length marks
spread_length true args marks = marked_length args marks
spread_length false args marks = refl

spread_from : (b : Bool) (args : List ℕ) (marks : List Bool) (i : ℕ) → Marked (spread b args marks) i → Marked marks i ⊎ ((b ≡ true) × ((k : ℕ) × (slice_get args k ≡ Some i)))
spread_from true args marks i is = ⊎_elim inl (λ (p : (k : ℕ) × (slice_get args k ≡ Some i)). inr (refl, p)) (marked_from args marks i is)
spread_from false args marks i is = inl is

-- what stands where no default is taken
app_stands : (rows : List DraftRow) (k symbol : ℕ) (args : List ℕ) → get_or rows k (Var 0) ≡ App symbol args → slice_get rows k ≡ Some (App symbol args)
app_stands [] k symbol args is = absurd (var_no_app is)
app_stands (row ∷ rows) zero symbol args is = ap Some is
app_stands (row ∷ rows) (suc k) symbol args is = app_stands rows k symbol args is

-- the row is reached from the roots
pub data From (rows : List DraftRow) (roots : List ℕ) : ℕ → Type 0 where
  root : {r : ℕ} (start : ℕ) → slice_get roots start ≡ Some r → From rows roots r
  part : {i a : ℕ} {args : List ℕ} (symbol place : ℕ) → From rows roots i → slice_get rows i ≡ Some (App symbol args) → slice_get args place ≡ Some a → From rows roots a

no_false : (n i : ℕ) → Marked (replicate n false) i → ⊥
no_false zero i is = true≢false (sym is)
no_false (suc n) zero is = true≢false (sym is)
no_false (suc n) (suc i) is = no_false n i is

length_same : (n : ℕ) → length (replicate n false) ≡ n
length_same zero = refl
length_same (suc n) = ap suc (length_same n)

module _ (rows : List DraftRow) (fit : (n : ℕ) (row : DraftRow) → slice_get rows n ≡ Some row → FitsRow n row) (roots : List ℕ) where
  below_keeps : (k : ℕ) (marks : List Bool) (i : ℕ) → Marked marks i → Marked (reached_below k rows marks) i
  below_keeps zero marks i is = is
  below_keeps (suc k) marks i is = let args = args_of (get_or rows k (Var 0)) in below_keeps k (spread (get_or marks k false) args marks) i (spread_keeps (get_or marks k false) args marks i is)

  part_of : (k i place : ℕ) (row : DraftRow) → get_or rows k (Var 0) ≡ row → From rows roots k → slice_get (args_of row) place ≡ Some i → From rows roots i
  part_of k i place (Var index) is from at = absurd (none-some i at)
  part_of k i place (App symbol args) is from at = part symbol place from (app_stands rows k symbol args is) at

  -- what is marked is reached
  below_from : (k : ℕ) (marks : List Bool) → ((i : ℕ) → Marked marks i → From rows roots i) → (i : ℕ) → Marked (reached_below k rows marks) i → From rows roots i
  below_from zero marks from i is = from i is
  below_from (suc k) marks from i is =
      let row = get_or rows k (Var 0) in
      below_from k (spread (get_or marks k false) (args_of row) marks)
      (λ j has. ⊎_elim (from j) (λ (p : (get_or marks k false ≡ true) × ((place : ℕ) × (slice_get (args_of row) place ≡ Some j))). part_of k j p.1.0 row refl (from k p.0) p.1.1) (spread_from (get_or marks k false) (args_of row) marks j has))
      i is

  -- from this number on, arguments of marked rows are marked
  abbrev Closed : ℕ → List Bool → Type 0
  Closed k marks = (i : ℕ) (row : DraftRow) → k ≤ i → slice_get rows i ≡ Some row → Marked marks i → (place a : ℕ) → slice_get (args_of row) place ≡ Some a → Marked marks a

  same_row_at : (rows : List DraftRow) (k : ℕ) (row : DraftRow) → slice_get rows k ≡ Some row → get_or rows k (Var 0) ≡ row
  same_row_at [] k row at = absurd (none-some row at)
  same_row_at (r ∷ rows) zero row at = same_Some r row at
  same_row_at (r ∷ rows) (suc k) row at = same_row_at rows k row at

  arg_below : (k place a : ℕ) (row : DraftRow) → get_or rows k (Var 0) ≡ row → slice_get (args_of row) place ≡ Some a → a < k
  arg_below k place a (Var index) is at = absurd (none-some a at)
  arg_below k place a (App symbol args) is at = All-slice_get (λ x. x < k) args place a (fit k (App symbol args) (app_stands rows k symbol args is)).args at

  here_or_later : (k i : ℕ) → k ≤ i → (k ≡ i) ⊎ (suc k ≤ i)
  here_or_later zero zero le = inl refl
  here_or_later zero (suc i) le = inr (omega arith)
  here_or_later (suc k) zero le = absurd (omega (arith, le))
  here_or_later (suc k) (suc i) le = ⊎_elim (λ same. inl (ap suc same)) (λ more. inr (omega (arith, more))) (here_or_later k i (omega (arith, le)))

  spread_true : (b : Bool) (args : List ℕ) (marks : List Bool) (place a : ℕ) → b ≡ true → slice_get args place ≡ Some a → a < length marks → Marked (spread b args marks) a
  spread_true true args marks place a is at within = marked_new args marks place a at within
  spread_true false args marks place a is at within = absurd (true≢false (sym is))

  closed_next : (k : ℕ) (marks : List Bool) → length marks ≡ length rows → Closed (suc k) marks → Closed k (spread (get_or marks k false) (args_of (get_or rows k (Var 0))) marks)
  closed_next k marks long closed i row le at has place a arg =
      let there = args_of (get_or rows k (Var 0)) in
      let b = get_or marks k false in
      let was : Marked marks i = ⊎_elim (λ (old : Marked marks i). old) (λ (p : (b ≡ true) × ((n : ℕ) × (slice_get there n ≡ Some i))). absurd (omega (arith, le, arg_below k p.1.0 i (get_or rows k (Var 0)) refl p.1.1))) (spread_from b there marks i has) in
      ⊎_elim
      (λ same. let row_is : get_or rows k (Var 0) ≡ row = same_row_at rows k row (subst (λ n. slice_get rows n ≡ Some row) (sym same) at) in
      spread_true b there marks place a (subst (λ n. Marked marks n) (sym same) was) (subst (λ r. slice_get (args_of r) place ≡ Some a) (sym row_is) arg)
      (omega (arith, long, same, arg_below k place a row row_is arg, slice_get_within rows i row at)))
      (λ later. spread_keeps b there marks a (closed i row later at was place a arg))
      (here_or_later k i le)

  below_closed : (k : ℕ) (marks : List Bool) → length marks ≡ length rows → Closed k marks → Closed 0 (reached_below k rows marks)
  below_closed zero marks long closed = closed
  below_closed (suc k) marks long closed = let there = args_of (get_or rows k (Var 0)) in
      below_closed k (spread (get_or marks k false) there marks) (spread_length (get_or marks k false) there marks ∙ long) (closed_next k marks long closed)

  abbrev first_marks : List Bool
  first_marks = marked roots (replicate (length rows) false)

  first_length : length first_marks ≡ length rows
  first_length = marked_length roots (replicate (length rows) false) ∙ length_same (length rows)

  -- roots are marked, and with each row its arguments; and what is marked is reached
  pub roots_marked : (start r : ℕ) → slice_get roots start ≡ Some r → r < length rows → Marked (reached_from rows roots) r
  roots_marked start r at within = below_keeps (length rows) first_marks r (marked_new roots (replicate (length rows) false) start r at (omega (arith, within, length_same (length rows))))

  pub args_marked : (i : ℕ) (row : DraftRow) → slice_get rows i ≡ Some row → Marked (reached_from rows roots) i → (place a : ℕ) → slice_get (args_of row) place ≡ Some a → Marked (reached_from rows roots) a
  args_marked i row at has place a arg = below_closed (length rows) first_marks first_length (λ j r past stands. absurd (omega (arith, past, slice_get_within rows j r stands))) i row (omega arith) at has place a arg

  pub marked_reached : (i : ℕ) → Marked (reached_from rows roots) i → From rows roots i
  marked_reached i has = below_from (length rows) first_marks (λ j is. ⊎_elim (λ none. absurd (no_false (length rows) j none)) (λ (p : (k : ℕ) × (slice_get roots k ≡ Some j)). root p.0 p.1) (marked_from roots (replicate (length rows) false) j is)) i has
