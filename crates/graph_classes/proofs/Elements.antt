use Rattle.std.proofs.Common.{◌≡◌, ◌⊎◌, inl, inr, ℕ, List, [], ◌∷◌, ◌++◌, length, Some, None, nat_eq, slice_get, Contains, true, false, refl, sym, subst, arith, if◌then◌else◌, suc, zero}
use Rattle.std.specs.Cmp.Lexicographic.{pointwise, bytes_decides}
use Rattle.std.proofs.lemmas.List.Elements.{Contains-append_right, Contains-append_cases}
use Rattle.graph_classes.specs.Closure.{found}

-- the elements of a list, one by one

pub contains_none : {A : Type 0} (x : A) → Contains {X = A} [] x → ⊥
contains_none x h = omega (arith, h.1)

pub contains_one : {A : Type 0} (x y : A) → Contains (x ∷ []) y → y ≡ x
contains_one x y (zero, h, e) = sym e
contains_one x y (suc k, h, e) = absurd (omega arith)

pub contains_first : {A : Type 0} (x : A) (xs : List A) → Contains (x ∷ xs) x
contains_first x xs = (0, omega arith, refl)

pub contains_later : {A : Type 0} (x : A) (xs : List A) (y : A) → Contains xs y → Contains (x ∷ xs) y
contains_later x xs y h = Contains-append_right (x ∷ []) xs y h

pub contains_cases : {A : Type 0} (x : A) (xs : List A) (y : A) → Contains (x ∷ xs) y → (y ≡ x) ⊎ Contains xs y
contains_cases x xs y h = elim (Contains-append_cases (x ∷ []) xs y h) [ inl one ↦ inl (contains_one x y one) | inr later ↦ inr later ]

-- an element before the last, or the last
pub contains_push_cases : {A : Type 0} (xs : List A) (x y : A) → Contains (xs ++ x ∷ []) y → Contains xs y ⊎ (y ≡ x)
contains_push_cases xs x y h = elim (Contains-append_cases xs (x ∷ []) y h) [ inl c ↦ inl c | inr one ↦ inr (contains_one x y one) ]

-- ---- the first entry of a key

pub contains_found : (table : List (List ℕ × ℕ)) (key : List ℕ) (term : ℕ) → found table key ≡ Some term → Contains table (key, term)
contains_found [] key term h = cc
contains_found (entry ∷ table) key term h =
    elim (pointwise nat_eq key entry.0) as (λ b. pointwise nat_eq key entry.0 ≡ b → (if b then Some entry.1 else found table key) ≡ Some term → Contains (entry ∷ table) (key, term)) [
      | true ↦ λ is e. let k : key ≡ entry.0 = (bytes_decides key entry.0).0 is in
          let t : entry.1 ≡ term = cc in
          let P : List ℕ × ℕ → Type 0 = λ x. Contains (entry ∷ table) x in
          let pair : entry ≡ (key, term) = pair_of entry key term k t in
          subst P pair (contains_first entry table)
      | false ↦ λ is e. contains_later entry table (key, term) (contains_found table key term e)
    ] refl h
  where
    pair_of : (e : List ℕ × ℕ) (k : List ℕ) (t : ℕ) → k ≡ e.0 → e.1 ≡ t → e ≡ (k, t)
    pair_of (a, b) k t p q = cc

pub found_push : (table : List (List ℕ × ℕ)) (entry : List ℕ × ℕ) (key : List ℕ) (term : ℕ) → found table key ≡ Some term → found (table ++ entry ∷ []) key ≡ Some term
found_push [] entry key term h = cc
found_push (first ∷ table) entry key term h =
    elim (pointwise nat_eq key first.0) as (λ b. (if b then Some first.1 else found table key) ≡ Some term → (if b then Some first.1 else found (table ++ entry ∷ []) key) ≡ Some term)
    [ true ↦ λ e. e | false ↦ λ e. found_push table entry key term e ] h

pub found_new : (table : List (List ℕ × ℕ)) (key : List ℕ) (term : ℕ) → found table key ≡ None → found (table ++ (key, term) ∷ []) key ≡ Some term
found_new [] key term h = let e : pointwise nat_eq key key ≡ true = (bytes_decides key key).1 refl in rw e refl
found_new (first ∷ table) key term h =
    elim (pointwise nat_eq key first.0) as (λ b. (if b then Some first.1 else found table key) ≡ None → (if b then Some first.1 else found (table ++ (key, term) ∷ []) key) ≡ Some term)
    [ true ↦ λ e. cc | false ↦ λ e. found_new table key term e ] h

-- ---- places in a list that grew by one

pub slice_get_kept : {A : Type 0} (xs ys : List A) (t : ℕ) (a : A) → slice_get xs t ≡ Some a → slice_get (xs ++ ys) t ≡ Some a
slice_get_kept [] ys t a h = cc
slice_get_kept (x ∷ xs) ys zero a h = h
slice_get_kept (x ∷ xs) ys (suc t) a h = slice_get_kept xs ys t a h

pub slice_get_push_cases : {A : Type 0} (xs : List A) (x : A) (t : ℕ) (a : A) → slice_get (xs ++ x ∷ []) t ≡ Some a → (slice_get xs t ≡ Some a) ⊎ ((t ≡ length xs) × (a ≡ x))
slice_get_push_cases [] x zero a h = inr (refl, cc)
slice_get_push_cases [] x (suc t) a h = cc
slice_get_push_cases (y ∷ ys) x zero a h = inl h
slice_get_push_cases (y ∷ ys) x (suc t) a h = elim (slice_get_push_cases ys x t a h) [ inl earlier ↦ inl earlier | inr last ↦ inr (omega (arith, last.0), last.1) ]
