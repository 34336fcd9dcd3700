-- Chains that are joined.
use Rattle.std.proofs.Common.{zero, suc, ◌≡◌, ◌<◌, ◌≤◌, ◌+◌, ◌⊎◌, inl, inr, ℕ, List, [], ◌∷◌, ◌++◌, length, take, slice_index, slice_index_or, slice_set, refl, sym, ◌∙◌, ap, arith, append_assoc, length-append, min}
use Rattle.std.proofs.lemmas.List.{take_more}
use Rattle.search_watch.specs.Chains.{Chained, before_link, chain_at, chained, grown, list_at, slot_at, with_list}
use Rattle.search_watch.specs.declared.link.Link.TheVariants.{Grown, Led}

pub get-set_same : {A : Type 0} (xs : List A) (i : ℕ) (y d : A) → i < length xs → slice_index_or (slice_set xs i y) i d ≡ y
get-set_same [] i y d h = absurd (omega arith)
get-set_same (x ∷ xs) zero y d h = refl
get-set_same (x ∷ xs) (suc i) y d h = get-set_same xs i y d (omega arith)

pub get-set_other : {A : Type 0} (xs : List A) (i j : ℕ) (y d : A) → (j ≡ i → ⊥) → slice_index_or (slice_set xs i y) j d ≡ slice_index_or xs j d
get-set_other [] i j y d ne = refl
get-set_other (x ∷ xs) zero zero y d ne = absurd (ne refl)
get-set_other (x ∷ xs) zero (suc j) y d ne = refl
get-set_other (x ∷ xs) (suc i) zero y d ne = refl
get-set_other (x ∷ xs) (suc i) (suc j) y d ne = get-set_other xs i j y d (λ e. ne (ap suc e))

set-set : {A : Type 0} (xs : List A) (i : ℕ) (x y : A) → slice_set (slice_set xs i x) i y ≡ slice_set xs i y
set-set [] i x y = refl
set-set (z ∷ zs) zero x y = refl
set-set (z ∷ zs) (suc i) x y = ap (λ ws. z ∷ ws) (set-set zs i x y)

pub set-same : {A : Type 0} (xs : List A) (i : ℕ) (d : A) → slice_set xs i (slice_index_or xs i d) ≡ xs
set-same [] i d = refl
set-same (z ∷ zs) zero d = refl
set-same (z ∷ zs) (suc i) d = ap (λ ws. z ∷ ws) (set-same zs i d)

-- the list of another slot is as it was
pub list_other : (s now : Chained) (slot other : ℕ) (list : List ℕ) → now ≡ with_list s slot list → (other ≡ slot → ⊥) → list_at now other ≡ list_at s other
list_other s now slot other list is ne = ap (λ (c : Chained). list_at c other) is ∙ get-set_other s.lists slot other list [] ne

pub append_step : (s now next : Chained) (slot i item : ℕ) (front more : List ℕ) → slot < length s.lists → now ≡ with_list s slot (front ++ take i more) → next ≡ grown now slot item → item ≡ slice_index more i → i < length more → next ≡ with_list s slot (front ++ take (i + 1) more)
append_step s now next slot i item front more within is grows item_is lt =
    let here = ap (λ (c : Chained). list_at c slot) is ∙ get-set_same s.lists slot (front ++ take i more) [] within in
    let assoc : (front ++ take i more) ++ item ∷ [] ≡ front ++ (take i more ++ item ∷ []) = simp append_assoc in
    let joined = assoc ∙ ap (λ xs. front ++ xs) (ap (λ x. take i more ++ x ∷ []) item_is ∙ sym (take_more more i 0 lt)) in
    grows ∙ ap (λ (c : Chained). with_list c slot (list_at now slot ++ item ∷ [])) is ∙ ap (λ xs. with_list (with_list s slot (front ++ take i more)) slot (xs ++ item ∷ [])) here
    ∙ ap (λ ls. record s { lists = ls }) (set-set s.lists slot (front ++ take i more) ((front ++ take i more) ++ item ∷ [])) ∙ ap (with_list s slot) joined

-- a list that was cut back is as it was
pub cut_back : (s now next : Chained) (slot len : ℕ) (front list : List ℕ) → slot < length s.lists → front ≡ list_at s slot → now ≡ with_list s slot list → take len list ≡ front → next ≡ with_list now slot (take len (list_at now slot)) → next ≡ s
cut_back s now next slot len front list within was is cut done =
    let here = ap (λ (c : Chained). list_at c slot) is ∙ get-set_same s.lists slot list [] within in
    done ∙ ap (λ xs. with_list now slot (take len xs)) here ∙ ap (with_list now slot) cut ∙ ap (λ (c : Chained). with_list c slot front) is
    ∙ ap (λ ls. record s { lists = ls }) (set-set s.lists slot list front ∙ ap (slice_set s.lists slot) was ∙ set-same s.lists slot [])

pub get_front : (xs ys : List ℕ) (i : ℕ) → i < length xs → slice_index (xs ++ ys) i ≡ slice_index xs i
get_front [] ys i h = absurd (omega arith)
get_front (x ∷ xs) ys zero h = refl
get_front (x ∷ xs) ys (suc i) h = get_front xs ys i (omega arith)

same_or_not : (i j : ℕ) → (i ≡ j) ⊎ (i ≡ j → ⊥)
same_or_not i j = search arith

-- the chain that is read keeps its items while it, or another, grows
pub source_at : (s now : Chained) (moved slot i : ℕ) (more : List ℕ) → slot < length s.lists → now ≡ with_list s slot (list_at s slot ++ more) → i < length (chain_at s moved) → slice_index (chain_at now moved) i ≡ slice_index (chain_at s moved) i
source_at s now moved slot i more within is lt = elim (same_or_not (slot_at s moved) slot) [
  | inl same ↦ ap (λ (c : Chained). slice_index (chain_at c moved) i) is ∙ ap (λ k. slice_index (list_at (with_list s slot (list_at s slot ++ more)) k) i) same ∙ ap (λ xs. slice_index xs i) (get-set_same s.lists slot (list_at s slot ++ more) [] within)
      ∙ get_front (list_at s slot) more i (omega (arith, lt, ap (λ k. length (list_at s k)) same)) ∙ ap (λ k. slice_index (list_at s k) i) (sym same)
  | inr other ↦ ap (λ (c : Chained). slice_index (chain_at c moved) i) is ∙ ap (λ xs. slice_index xs i) (get-set_other s.lists slot (slot_at s moved) (list_at s slot ++ more) [] other)
]

pub source_len : (s now : Chained) (moved slot : ℕ) (more : List ℕ) → slot < length s.lists → now ≡ with_list s slot (list_at s slot ++ more) → length (chain_at s moved) ≤ length (chain_at now moved)
source_len s now moved slot more within is = elim (same_or_not (slot_at s moved) slot) [
  | inl same ↦ omega (arith, ap (λ (c : Chained). length (chain_at c moved)) is ∙ ap (λ k. length (list_at (with_list s slot (list_at s slot ++ more)) k)) same ∙ ap length (get-set_same s.lists slot (list_at s slot ++ more) [] within), length-append (list_at s slot) more, ap (λ k. length (list_at s k)) same)
  | inr other ↦ omega (arith, ap (λ (c : Chained). length (chain_at c moved)) is ∙ ap length (get-set_other s.lists slot (slot_at s moved) (list_at s slot ++ more) [] other))
]

pub set-back : {A : Type 0} (xs : List A) (i : ℕ) (x d : A) → slice_set (slice_set xs i x) i (slice_index_or xs i d) ≡ xs
set-back xs i x d = set-set xs i x (slice_index_or xs i d) ∙ set-same xs i d

pub take_front : (xs ys : List ℕ) → take (length xs) (xs ++ ys) ≡ xs
take_front [] ys = refl
take_front (x ∷ xs) ys = ap (λ zs. x ∷ zs) (take_front xs ys)

-- two notes undo what joined two chains
pub join_undone : (s : Chained) (moved kept : ℕ) → slot_at s kept < length s.lists → before_link (before_link (chained s moved kept) (Led (min moved kept) (slot_at s (min moved kept)))) (Grown (slot_at s kept) (length (chain_at s kept))) ≡ s
join_undone s moved kept within =
    let slot = slot_at s kept in
    let list = chain_at s kept ++ chain_at s moved in
    let here = ap (take (length (chain_at s kept))) (get-set_same s.lists slot list [] within) ∙ take_front (chain_at s kept) (chain_at s moved) in
    ap (λ ss. record s { slots = ss; lists = slice_set (slice_set s.lists slot list) slot (take (length (chain_at s kept)) (slice_index_or (slice_set s.lists slot list) slot [])) }) (set-back s.slots (min moved kept) slot 0)
    ∙ ap (λ ls. record s { lists = ls }) (ap (slice_set (slice_set s.lists slot list) slot) here ∙ set-back s.lists slot list [])
