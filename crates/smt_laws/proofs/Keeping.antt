-- Which rows a trigger keeps, and their new numbers.
use Rattle.std.proofs.Common.{◌≡◌, ℕ, zero, suc, ◌<◌, ◌≤◌, ◌⊎◌, ⊎_elim, inl, inr, Bool, true, false, List, [], ◌∷◌, ◌++◌, length, get_or, slice_get, Some, All, refl, sym, ap, subst, ◌∙◌, true≢false, append-nil, append_assoc, length-append, arith}
use Rattle.std.proofs.lemmas.Option.{same_Some, slice_get_within}
use Rattle.std.proofs.lemmas.List.Elements.{All-head, All-tail, All-weaker}
use Rattle.graph_terms.proofs.ListLaws.{slice_get-append_left, slice_get-push, element_at}
use Rattle.graph_trigger.specs.declared.pattern_row.PatternRow.{PatternRow}
use Rattle.graph_trigger.specs.declared.pattern_row.PatternRow.TheVariants as pattern
use Rattle.formula_draft.specs.declared.draft_row.DraftRow.{DraftRow}
use Rattle.formula_draft.specs.declared.draft_row.DraftRow.TheVariants.{Var, App}
use Rattle.formula_draft.specs.DraftRow.{args_of}
use Rattle.formula_draft.specs.Draft.{FitsRow}
use Rattle.smt_patterns.specs.Patterns.{Kept, numbered, renumbered, kept_if, kept_after}
use Rattle.smt_laws.proofs.Moving.{behind_front, pushed_at}
use Rattle.smt_laws.proofs.Rooted.{get_front}
use Rattle.smt_laws.proofs.Marks.{Marked}

numbered_more : (numbers more : List ℕ) (args : List ℕ) → All (λ arg. arg < length numbers) args → numbered (numbers ++ more) args ≡ numbered numbers args
numbered_more numbers more [] below = refl
numbered_more numbers more (a ∷ args) below =
    ap (λ n. n ∷ numbered (numbers ++ more) args) (get_front numbers more a (All-head (λ arg. arg < length numbers) a args below))
    ∙ ap (λ ns. get_or numbers a 0 ∷ ns) (numbered_more numbers more args (All-tail (λ arg. arg < length numbers) a args below))

-- numbers that come later change no row whose arguments have theirs
renumbered_more : (numbers more : List ℕ) (row : DraftRow) → All (λ arg. arg < length numbers) (args_of row) → renumbered (numbers ++ more) row ≡ renumbered numbers row
renumbered_more numbers more (Var index) below = refl
renumbered_more numbers more (App symbol args) below = ap (pattern.App symbol) (numbered_more numbers more args below)

module _ (rows : List DraftRow) (fit : (n : ℕ) (row : DraftRow) → slice_get rows n ≡ Some row → FitsRow n row) (marks : List Bool) where
  -- what is kept of so many rows: each marked row, in order
  pub record KeptSo (front : ℕ) (kept : Kept) : Type 0 where
    pub as_many : length kept.numbers ≡ front
    pub placed : (i : ℕ) (row : DraftRow) → i < front → slice_get rows i ≡ Some row → Marked marks i → slice_get kept.rows (get_or kept.numbers i 0) ≡ Some (renumbered kept.numbers row)
    pub origin : (p : ℕ) → p < length kept.rows → (i : ℕ) × (i < front) × Marked marks i × (get_or kept.numbers i 0 ≡ p)
    pub rising : (i j : ℕ) → i < j → j < front → Marked marks i → Marked marks j → get_or kept.numbers i 0 < get_or kept.numbers j 0

  nothing_kept : KeptSo 0 (record { numbers = []; rows = [] })
  nothing_kept = record {
    as_many = refl;
    placed = λ i row within. absurd (omega (arith, within));
    origin = λ p within. absurd (omega (arith, within));
    rising = λ i j less within. absurd (omega (arith, within));
  }

  earlier : (i : ℕ) (row : DraftRow) (n : ℕ) → slice_get rows i ≡ Some row → i ≤ n → All (λ arg. arg < n) (args_of row)
  earlier i row n at le = All-weaker (λ arg. arg < i) (λ arg. arg < n) (λ arg below. omega (arith, below, le)) (args_of row) (fit i row at).args

  old_or_new : (i n : ℕ) → i < suc n → (i < n) ⊎ (i ≡ n)
  old_or_new zero zero within = inr refl
  old_or_new zero (suc n) within = inl (omega arith)
  old_or_new (suc i) zero within = absurd (omega (arith, within))
  old_or_new (suc i) (suc n) within = ⊎_elim (λ less. inl (omega (arith, less))) (λ same. inr (ap suc same)) (old_or_new i n (omega (arith, within)))

  module _ (front : ℕ) (kept : Kept) (so : KeptSo front kept) (next : DraftRow) (next_at : slice_get rows front ≡ Some next) where
    abbrev numbers : List ℕ
    numbers = kept.numbers

    -- the number of an old row
    old_number : (x i : ℕ) → i < front → get_or (numbers ++ x ∷ []) i 0 ≡ get_or numbers i 0
    old_number x i within = get_front numbers (x ∷ []) i (omega (arith, within, so.as_many))

    new_number : (x i : ℕ) → i ≡ front → get_or (numbers ++ x ∷ []) i 0 ≡ x
    new_number x i same = ⊎_elim (λ (p : (i < length numbers) × (get_or (numbers ++ x ∷ []) i 0 ≡ get_or numbers i 0)). absurd (omega (arith, p.0, same, so.as_many))) (λ (p : (i ≡ length numbers) × (get_or (numbers ++ x ∷ []) i 0 ≡ x)). p.1)
        (pushed_at numbers x i (omega (arith, same, so.as_many, length-append numbers (x ∷ []))))

    same_row : (x i : ℕ) (row : DraftRow) → slice_get rows i ≡ Some row → i ≤ front → renumbered (numbers ++ x ∷ []) row ≡ renumbered numbers row
    same_row x i row at le = renumbered_more numbers (x ∷ []) row (earlier i row (length numbers) at (omega (arith, le, so.as_many)))

    old_placed : (x : ℕ) (more : List PatternRow) (i : ℕ) (row : DraftRow) → i < front → slice_get rows i ≡ Some row → Marked marks i → slice_get (kept.rows ++ more) (get_or (numbers ++ x ∷ []) i 0) ≡ Some (renumbered (numbers ++ x ∷ []) row)
    old_placed x more i row within at has =
        ap (λ k. slice_get (kept.rows ++ more) k) (old_number x i within)
        ∙ slice_get-append_left kept.rows more (get_or numbers i 0) (renumbered numbers row) (so.placed i row within at has)
        ∙ ap Some (sym (same_row x i row at (omega (arith, within))))

    number_below : (i : ℕ) (row : DraftRow) → i < front → slice_get rows i ≡ Some row → Marked marks i → get_or numbers i 0 < length kept.rows
    number_below i row within at has = slice_get_within kept.rows (get_or numbers i 0) (renumbered numbers row) (so.placed i row within at has)

    keeps_row : Marked marks front → KeptSo (suc front) (record { numbers = numbers ++ length kept.rows ∷ []; rows = kept.rows ++ renumbered numbers next ∷ [] })
    keeps_row has = let n = length kept.rows in let x = renumbered numbers next in record {
      as_many = omega (arith, so.as_many, length-append numbers (n ∷ []));
      placed = λ i row within at is. ⊎_elim
          (λ less. old_placed n (x ∷ []) i row less at is)
          (λ same. let row_is : next ≡ row = same_Some next row (sym next_at ∙ ap (slice_get rows) (sym same) ∙ at) in
          ap (λ k. slice_get (kept.rows ++ x ∷ []) k) (new_number n i same) ∙ slice_get-push kept.rows x
          ∙ ap Some (sym (same_row n front next next_at (omega arith)) ∙ ap (renumbered (numbers ++ n ∷ [])) row_is))
          (old_or_new i front within);
      origin = λ p within. ⊎_elim
          (λ less. let o = so.origin p less in (o.0, omega (arith, o.1), o.2, old_number n o.0 o.1 ∙ o.3))
          (λ same. (front, omega arith, has, new_number n front refl ∙ sym same))
          (old_or_new p n (omega (arith, within, length-append kept.rows (x ∷ []))));
      rising = λ i j less within is_i is_j. ⊎_elim
          (λ below. omega (arith, so.rising i j less below is_i is_j, old_number n i (omega (arith, less, below)), old_number n j below))
          (λ same. let inside : i < front = omega (arith, less, same) in
          let row = element_at rows i (omega (arith, inside, slice_get_within rows front next next_at)) in
          omega (arith, number_below i row.0 inside row.1 is_i, old_number n i inside, new_number n j same))
          (old_or_new j front within);
    }

    passes_row : (Marked marks front → ⊥) → KeptSo (suc front) (record kept { numbers = numbers ++ 0 ∷ [] })
    passes_row hasnt = record {
      as_many = omega (arith, so.as_many, length-append numbers (0 ∷ []));
      placed = λ i row within at is. ⊎_elim
          (λ less. subst (λ (all : List PatternRow). slice_get all (get_or (numbers ++ 0 ∷ []) i 0) ≡ Some (renumbered (numbers ++ 0 ∷ []) row)) (append-nil kept.rows) (old_placed 0 [] i row less at is))
          (λ same. absurd (hasnt (subst (Marked marks) same is)))
          (old_or_new i front within);
      origin = λ p within. let o = so.origin p within in (o.0, omega (arith, o.1), o.2, old_number 0 o.0 o.1 ∙ o.3);
      rising = λ i j less within is_i is_j. ⊎_elim
          (λ below. omega (arith, so.rising i j less below is_i is_j, old_number 0 i (omega (arith, less, below)), old_number 0 j below))
          (λ same. absurd (hasnt (subst (Marked marks) same is_j)))
          (old_or_new j front within);
    }

    kept_next : (b : Bool) → get_or marks front false ≡ b → KeptSo (suc front) (kept_if b kept next)
    kept_next true is = keeps_row is
    kept_next false is = passes_row (λ has. true≢false (sym has ∙ is))

  kept_all : (kept : Kept) (front rest : List DraftRow) → KeptSo (length front) kept → front ++ rest ≡ rows → KeptSo (length rows) (kept_after marks kept rest)
  kept_all kept front [] so split = subst (λ n. KeptSo n kept) (ap length (sym (append-nil front) ∙ split)) so
  kept_all kept front (next ∷ rest) so split =
      let at = subst (λ all. slice_get all (length front) ≡ Some next) split (behind_front front next rest) in
      let b = get_or marks (length kept.numbers) false in
      kept_all (kept_if b kept next) (front ++ next ∷ []) rest
      (subst (λ n. KeptSo n (kept_if b kept next)) (longer front next) (kept_next (length front) kept so next at b (ap (λ n. get_or marks n false) (sym so.as_many))))
      (append_assoc front (next ∷ []) rest ∙ split)
    where
      longer : (front : List DraftRow) (next : DraftRow) → suc (length front) ≡ length (front ++ next ∷ [])
      longer front next = omega (arith, length-append front (next ∷ []))

  -- what is kept of all rows
  pub kept_rows : KeptSo (length rows) (kept_after marks (record { numbers = []; rows = [] }) rows)
  kept_rows = kept_all (record { numbers = []; rows = [] }) [] rows nothing_kept refl
