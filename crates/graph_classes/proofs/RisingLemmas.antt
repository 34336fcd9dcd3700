-- Lists that rise, with a number more or less.
use Rattle.std.proofs.Common.{◌≡◌, ◌≤◌, ◌<◌, ◌+◌, ◌-◌, ◌⊎◌, inl, inr, ℕ, List, [], ◌∷◌, length, insert, remove, slice_index_or, AllPairs, sym, ap, subst, arith, refl, zero, suc, Result, Ok, Err, OnOk, OnErr, MatchResult}
use Rattle.smallvec.specs.SmallVec.{SmallVec}
use Rattle.std.specs.Ordering.{nat_cmp}
use Rattle.std.specs.List.Sorted.{IsBinarySearchResult}
use Rattle.std.proofs.lemmas.List.Sorted.{searched}
use Rattle.std.proofs.lemmas.List.Edits.{length-insert, length-remove, get_or-insert_below, get_or-insert_at, get_or-insert_above, get_or-remove_below, get_or-remove_above}

-- below a number, or not
below_or_not : (k at : ℕ) → (k < at) ⊎ (at ≤ k)
below_or_not k at = grind arith

-- below a number, at it, or past it
below_at_or_past : (k at : ℕ) → (k < at) ⊎ ((k ≡ at) ⊎ ((p : ℕ) × (k ≡ p + 1) × (at ≤ p)))
below_at_or_past k at = elim (below_or_not k at) [
  | inl below ↦ inl below
  | inr above ↦ elim (below_or_not at k) [
    | inl past ↦ inr (inr (k - 1, omega arith, omega arith))
    | inr same ↦ inr (inl (omega arith))
  ]
]

-- a number of the list without one place stands in the whole list, no earlier
pub AllPairs-remove : (xs : List ℕ) (at : ℕ) → at < length xs → AllPairs (λ a b. a < b) xs → AllPairs (λ a b. a < b) (remove xs at)
AllPairs-remove xs at h rising i j d low high =
    let n = length-remove xs at h in
    elim (below_or_not j at) [
      | inl j_below ↦ rw (get_or-remove_below xs at d j j_below h, get_or-remove_below xs at d i (omega arith) h) (rising i j d low (omega arith))
      | inr j_above ↦ elim (below_or_not i at) [
        | inl i_below ↦ rw (get_or-remove_above xs at d j j_above h, get_or-remove_below xs at d i i_below h) (rising i (j + 1) d (omega arith) (omega arith))
        | inr i_above ↦ rw (get_or-remove_above xs at d j j_above h, get_or-remove_above xs at d i i_above h) (rising (i + 1) (j + 1) d (omega arith) (omega arith))
      ]
    ]

-- a number put between what is less and what is more
module _ (xs : List ℕ) (at item : ℕ) (h : at ≤ length xs) (rising : AllPairs (λ a b. a < b) xs) (before : (k d : ℕ) → k < at → slice_index_or xs k d < item) (after : (k d : ℕ) → at ≤ k → k < length xs → item < slice_index_or xs k d) where
  pub AllPairs-insert : AllPairs (λ a b. a < b) (insert xs at item)
  AllPairs-insert i j d low high =
      let n = length-insert xs at item h in
      elim (below_at_or_past j at) [
        | inl j_below ↦ rw (get_or-insert_below xs at item d j j_below h, get_or-insert_below xs at item d i (omega arith) h) (rising i j d low (omega arith))
        | inr (inl j_at) ↦ rw (j_at, get_or-insert_at xs at item d h, get_or-insert_below xs at item d i (omega arith) h) (before i d (omega arith))
        | inr (inr p) ↦ rw (p.1, get_or-insert_above xs at item d p.0 p.2 h) (elim (below_at_or_past i at) [
          | inl i_below ↦ rw (get_or-insert_below xs at item d i i_below h) (rising i p.0 d (omega arith) (let e = p.1 in omega arith))
          | inr (inl i_at) ↦ rw (i_at, get_or-insert_at xs at item d h) (after p.0 d p.2 (let e = p.1 in omega arith))
          | inr (inr q) ↦ rw (q.1, get_or-insert_above xs at item d q.0 q.2 h) (rising q.0 p.0 d (let e = p.1 in let f = q.1 in omega arith) (let e = p.1 in omega arith))
        ])
      ]

-- a place of a list has one value, whatever stands for what is past the end
pub read_same : (xs : List ℕ) (i d e : ℕ) → i < length xs → slice_index_or xs i d ≡ slice_index_or xs i e
read_same [] i d e h = absurd (omega arith)
read_same (x ∷ xs) zero d e h = refl
read_same (x ∷ xs) (suc i) d e h = read_same xs i d e (omega arith)

-- what rises doesn't fall
not_falling : (xs : List ℕ) → AllPairs (λ a b. a < b) xs → (i j : ℕ) → i ≤ j → j < length xs → slice_index_or xs i 0 ≤ slice_index_or xs j 0
not_falling xs rising i j low high = elim (below_or_not i j) [
  | inl below ↦ let h = rising i j 0 below high in omega arith
  | inr above ↦ let same : i ≡ j = omega arith in rw same (omega arith)
]

-- a number that a search did not find, entered where the search says
inserted : (xs : List ℕ) (at item : ℕ) (found : Result ℕ ℕ) → IsBinarySearchResult (λ y. nat_cmp y item) xs found → found ≡ Err at → AllPairs (λ a b. a < b) xs → AllPairs (λ a b. a < b) (insert xs at item)
inserted xs at item found at_place is rising =
    let P : Result ℕ ℕ → Type 0 = λ r. MatchResult r (λ i. (i < length xs) × (slice_index_or xs i 0 ≡ item)) (λ i. (i ≤ length xs) × ((k : ℕ) → k < i → slice_index_or xs k 0 < item) × ((k : ℕ) → i ≤ k → k < length xs → item < slice_index_or xs k 0)) in
    let part = subst P is (searched xs item found at_place (not_falling xs rising)) in
    AllPairs-insert xs at item part.0 rising (λ k d h. rw (read_same xs k d 0 (let low = part.0 in omega arith)) (part.1 k h)) (λ k d low high. rw (read_same xs k d 0 high) (part.2 k low high))

pub AllPairs-entered : {X E : Type 0} (xs new read : List ℕ) (at item : ℕ) (result : Result X E) (found : Result ℕ ℕ) → read ≡ xs → IsBinarySearchResult (λ y. nat_cmp y item) read found → found ≡ Err at → AllPairs (λ a b. a < b) xs
    → OnOk result (new ≡ insert xs at item) → OnErr result (new ≡ xs) → AllPairs (λ a b. a < b) new
AllPairs-entered xs new read at item (Ok x) found same at_place is rising ok err =
    let P : List ℕ → Type 0 = λ ys. AllPairs (λ a b. a < b) ys in
    let Q : List ℕ → Type 0 = λ ys. IsBinarySearchResult (λ y. nat_cmp y item) ys found in
    subst P (sym ok) (inserted xs at item found (subst Q same at_place) is rising)
AllPairs-entered xs new read at item (Err e) found same at_place is rising ok err =
    let P : List ℕ → Type 0 = λ ys. AllPairs (λ a b. a < b) ys in subst P (sym err) rising

pub unchanged : {X E : Type 0} (result : Result X E) (old new : SmallVec ℕ) → OnErr result (new ≡ old) → OnErr result (new.items ≡ old.items)
unchanged (Ok x) old new h = tt
unchanged (Err e) old new h = ap (λ (v : SmallVec ℕ). v.items) h
