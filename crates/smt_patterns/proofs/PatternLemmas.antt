-- Lists by their places, and rows of triggers.
use Rattle.std.proofs.Common.{◌≡◌, ℕ, zero, suc, ◌+◌, ◌-◌, ◌<◌, Bool, true, false, List, [], ◌∷◌, ◌++◌, take, drop, length, get_or, slice_get, Some, refl, sym, ap, ◌∙◌, arith}
use Rattle.std.specs.List.{list_any}
use Rattle.std.proofs.lemmas.Option.{none-some, same_Some}
use Rattle.formula_draft.specs.declared.draft_row.DraftRow.{DraftRow}
use Rattle.formula_draft.specs.declared.draft_row.DraftRow.TheVariants.{Var}
use Rattle.formula_draft.specs.DraftRow.{args_of}
use Rattle.smt_patterns.specs.Patterns.{spread, reached_below, Kept, kept_if, kept_after}

-- what stands at a place, and what is left behind it
pub drop_at : {X : Type 0} (xs : List X) (i : ℕ) (x : X) → slice_get xs i ≡ Some x → drop i xs ≡ x ∷ drop (i + 1) xs
drop_at [] i x h = absurd (none-some x h)
drop_at (y ∷ ys) zero x h = ap (λ z. z ∷ ys) (same_Some y x h)
drop_at (y ∷ ys) (suc i) x h = drop_at ys i x h ∙ ap (λ (n : ℕ). x ∷ drop n (y ∷ ys)) one
  where
    one : suc (i + 1) ≡ suc i + 1
    one = omega arith

pub take_at : {X : Type 0} (xs : List X) (i : ℕ) (x : X) → slice_get xs i ≡ Some x → take (i + 1) xs ≡ take i xs ++ x ∷ []
take_at [] i x h = absurd (none-some x h)
take_at (y ∷ ys) zero x h = ap (λ z. z ∷ []) (same_Some y x h)
take_at (y ∷ ys) (suc i) x h = ap (λ (n : ℕ). take n (y ∷ ys)) one ∙ ap (λ zs. y ∷ zs) (take_at ys i x h)
  where
    one : suc i + 1 ≡ suc (i + 1)
    one = omega arith

pub get_at : {X : Type 0} (xs : List X) (i : ℕ) (x d : X) → slice_get xs i ≡ Some x → get_or xs i d ≡ x
get_at [] i x d h = absurd (none-some x h)
get_at (y ∷ ys) zero x d h = same_Some y x h
get_at (y ∷ ys) (suc i) x d h = get_at ys i x d h

-- something stands at a place within
pub at_place : {X : Type 0} (xs : List X) (i : ℕ) → i < length xs → (x : X) × (slice_get xs i ≡ Some x)
at_place [] i h = absurd (omega (arith, h))
at_place (x ∷ xs) zero h = (x, refl)
at_place (x ∷ xs) (suc i) h = at_place xs i (omega (arith, h))

-- one row less is left to go down to
pub reached_next : (n : ℕ) (rows : List DraftRow) (marks more : List Bool) → 0 < n → more ≡ spread (get_or marks (n - 1) false) (args_of (get_or rows (n - 1) (Var 0))) marks
    → reached_below (n - 1) rows more ≡ reached_below n rows marks
reached_next zero rows marks more some is = absurd (omega (arith, some))
reached_next (suc n) rows marks more some is = ap (reached_below (suc n - 1) rows) is ∙ ap (λ (k : ℕ). reached_below k rows (spread (get_or marks k false) (args_of (get_or rows k (Var 0))) marks)) one
  where
    one : suc n - 1 ≡ n
    one = omega arith

-- one row more is kept, or not
pub kept_next : (marks : List Bool) (kept more : Kept) (rows : List DraftRow) (i : ℕ) (row : DraftRow) → slice_get rows i ≡ Some row → more ≡ kept_if (get_or marks (length kept.numbers) false) kept row
    → kept_after marks more (drop (i + 1) rows) ≡ kept_after marks kept (drop i rows)
kept_next marks kept more rows i row at is = ap (λ (k : Kept). kept_after marks k (drop (i + 1) rows)) is ∙ ap (kept_after marks kept) (sym (drop_at rows i row at))

pub any_next : {X : Type 0} (p : X → Bool) (xs : List X) (i : ℕ) (x : X) → slice_get xs i ≡ Some x → p x ≡ false → list_any p (drop (i + 1) xs) ≡ list_any p (drop i xs)
any_next p xs i x at none = rw (drop_at xs i x at, none) refl

pub any_here : {X : Type 0} (p : X → Bool) (xs : List X) (i : ℕ) (x : X) → slice_get xs i ≡ Some x → p x ≡ true → list_any p (drop i xs) ≡ true
any_here p xs i x at some = rw (drop_at xs i x at, some) refl
