-- What stays a table.
use Rattle.std.proofs.Common.{◌≡◌, ℕ, zero, suc, ◌<◌, ◌≤◌, List, [], ◌∷◌, ◌++◌, length}
use Rattle.std.proofs.Common.{take, Some, All, refl, sym, ap, subst, ◌∙◌, ⊎_elim, arith}
use Rattle.std.proofs.lemmas.Option.{none-some, same_Some}
use Rattle.std.proofs.lemmas.List.Elements.{All-nil}
use Rattle.graph_terms.specs.declared.term_row.TermRow.{TermRow}
use Rattle.graph_terms.specs.Terms.{most_args, term_row, first_rows, HasRow, IsAbsent, IsTable}
use Rattle.graph_terms.proofs.ListLaws.{slice_get-append_left, push_cases, slice_get-take, slice_get-take_below}

-- the rows of true and false are a table
pub IsTable-first : IsTable first_rows
IsTable-first = record { true_row = refl; false_row = refl; earlier = earlier; few_args = few; once = once }
  where
    earlier : (term : ℕ) (row : TermRow) → HasRow first_rows term row → All (λ arg. arg < term) row.args
    earlier zero row h = subst (λ r. All (λ arg. arg < 0) r.args) (same_Some (term_row 0 []) row h) (All-nil _)
    earlier (suc zero) row h = subst (λ r. All (λ arg. arg < 1) r.args) (same_Some (term_row 1 []) row h) (All-nil _)
    earlier (suc (suc term)) row h = absurd (none-some row h)

    few : (term : ℕ) (row : TermRow) → HasRow first_rows term row → length row.args ≤ most_args
    few zero row h = subst (λ r. length r.args ≤ most_args) (same_Some (term_row 0 []) row h) (omega arith)
    few (suc zero) row h = subst (λ r. length r.args ≤ most_args) (same_Some (term_row 1 []) row h) (omega arith)
    few (suc (suc term)) row h = absurd (none-some row h)

    once : (s t : ℕ) (row : TermRow) → HasRow first_rows s row → HasRow first_rows t row → s ≡ t
    once zero zero row h k = refl
    once zero (suc zero) row h k = absurd (grind arith)
    once (suc zero) zero row h k = absurd (grind arith)
    once (suc zero) (suc zero) row h k = refl
    once (suc (suc s)) t row h k = absurd (none-some row h)
    once zero (suc (suc t)) row h k = absurd (none-some row k)
    once (suc zero) (suc (suc t)) row h k = absurd (none-some row k)

-- the first rows of a table are a table
pub IsTable-take : (len : ℕ) (rows : List TermRow) → 2 ≤ len → IsTable rows → IsTable (take len rows)
IsTable-take len rows least table = record {
  true_row = slice_get-take_below len rows 0 (term_row 0 []) (omega arith) table.true_row;
  false_row = slice_get-take_below len rows 1 (term_row 1 []) (omega arith) table.false_row;
  earlier = λ term row has. table.earlier term row (slice_get-take len rows term row has);
  few_args = λ term row has. table.few_args term row (slice_get-take len rows term row has);
  once = λ s t row has_s has_t. table.once s t row (slice_get-take len rows s row has_s)
      (slice_get-take len rows t row has_t);
}

-- a table with a new row at its end is a table
pub IsTable-push : (rows : List TermRow) (row : TermRow) → All (λ arg. arg < length rows) row.args →
    length row.args ≤ most_args → IsAbsent rows row → IsTable rows → IsTable (rows ++ row ∷ [])
IsTable-push rows row earlier few absent table = record {
  true_row = slice_get-append_left rows (row ∷ []) 0 (term_row 0 []) table.true_row;
  false_row = slice_get-append_left rows (row ∷ []) 1 (term_row 1 []) table.false_row;
  earlier = λ t r has. ⊎_elim (table.earlier t r) (λ p. subst (λ r. All (λ arg. arg < t) r.args) (sym p.1)
      (subst (λ n. All (λ arg. arg < n) row.args) (sym p.0) earlier)) (push_cases rows row t r has);
  few_args = λ t r has. ⊎_elim (table.few_args t r) (λ p. subst (λ r. length r.args ≤ most_args) (sym p.1) few)
      (push_cases rows row t r has);
  once = λ s t r has_s has_t.
      ⊎_elim (λ old. ⊎_elim (table.once s t r old) (λ p. absurd (absent s (old ∙ ap Some p.1)))
      (push_cases rows row t r has_t))
      (λ new. ⊎_elim (λ old. absurd (absent t (old ∙ ap Some new.1))) (λ p. new.0 ∙ sym p.0)
      (push_cases rows row t r has_t))
      (push_cases rows row s r has_s);
}
