-- Marked places in order.
use Rattle.std.proofs.Common.{◌≡◌, ℕ, zero, suc, ◌+◌, ◌-◌, ◌<◌, ◌≤◌, ◌⊎◌, ⊎_elim, inl, inr, Bool, true, false, cond, List, [], ◌∷◌, ◌++◌, length, get_or, slice_set, refl, sym, ap, ap₂, subst, ◌∙◌, append_assoc, append-nil, length-append, arith}
use Rattle.std.specs.List.{insert}
use Rattle.std.specs.List.Sorted.{IsNonDecreasingBy}
use Rattle.std.proofs.lemmas.List.Sorted.{IsNonDecreasingBy-short, IsNonDecreasingBy-push}
use Rattle.std.proofs.lemmas.List.Edits.{insert-append_right}
use Rattle.std.proofs.lemmas.List.{get_or_append_left, get_or-append_right}
use Rattle.smt_patterns.specs.Places.{places_below}

-- which of two numbers is less
pub less_or_same : (m n : ℕ) → m ≤ n → (m ≡ n) ⊎ (m < n)
less_or_same zero zero le = inl refl
less_or_same zero (suc n) le = inr (omega arith)
less_or_same (suc m) zero le = absurd (omega (arith, le))
less_or_same (suc m) (suc n) le = ⊎_elim (λ same. inl (ap suc same)) (λ less. inr (omega (arith, less))) (less_or_same m n (omega (arith, le)))

pub below_or_not : (m n : ℕ) → (m < n) ⊎ (n ≤ m)
below_or_not m zero = inr (omega arith)
below_or_not zero (suc n) = inl (omega arith)
below_or_not (suc m) (suc n) = ⊎_elim (λ less. inl (omega (arith, less))) (λ le. inr (omega (arith, le))) (below_or_not m n)

-- one mark
set_other : (marks : List Bool) (n i : ℕ) → (n ≡ i → ⊥) → get_or (slice_set marks n true) i false ≡ get_or marks i false
set_other [] n i other = refl
set_other (m ∷ marks) zero zero other = absurd (other refl)
set_other (m ∷ marks) zero (suc i) other = refl
set_other (m ∷ marks) (suc n) zero other = refl
set_other (m ∷ marks) (suc n) (suc i) other = set_other marks n i (λ same. other (ap suc same))

set_here : (marks : List Bool) (n : ℕ) → n < length marks → get_or (slice_set marks n true) n false ≡ true
set_here [] n within = absurd (omega (arith, within))
set_here (m ∷ marks) zero within = refl
set_here (m ∷ marks) (suc n) within = set_here marks n (omega (arith, within))

set_again : (marks : List Bool) (n : ℕ) → get_or marks n false ≡ true → slice_set marks n true ≡ marks
set_again [] n is = refl
set_again (m ∷ marks) zero is = ap (λ (b : Bool). b ∷ marks) (sym is)
set_again (m ∷ marks) (suc n) is = ap (λ (bs : List Bool). m ∷ bs) (set_again marks n is)

pub set_length : (marks : List Bool) (n : ℕ) → length (slice_set marks n true) ≡ length marks
set_length [] n = refl
set_length (m ∷ marks) zero = refl
set_length (m ∷ marks) (suc n) = ap suc (set_length marks n)

-- the element behind a front
pub get_behind : {X : Type 0} (xs : List X) (y : X) (i : ℕ) (d : X) → i ≡ length xs → get_or (xs ++ y ∷ []) i d ≡ y
get_behind [] y zero d is = refl
get_behind [] y (suc i) d is = absurd (omega (arith, is))
get_behind (x ∷ xs) y zero d is = absurd (omega (arith, is))
get_behind (x ∷ xs) y (suc i) d is = get_behind xs y i d (omega (arith, is))

-- what a push changes of a list by place
pushed_at : (xs : List ℕ) (x i d : ℕ) → i < length (xs ++ x ∷ []) → ((i < length xs) × (get_or (xs ++ x ∷ []) i d ≡ get_or xs i d)) ⊎ ((i ≡ length xs) × (get_or (xs ++ x ∷ []) i d ≡ x))
pushed_at xs x i d within = ⊎_elim
    (λ (before : i < length xs). inl (before, get_or_append_left xs (x ∷ []) d i before))
    (λ (past : length xs ≤ i). let is : i ≡ length xs = omega (arith, past, within, length-append xs (x ∷ [])) in inr (is, get_behind xs x i d is))
    (below_or_not i (length xs))

-- what is put behind so many places does not change them
kept_before : (n place : ℕ) (marks : List Bool) → n ≤ place → places_below n (slice_set marks place true) ≡ places_below n marks
kept_before zero place marks before = refl
kept_before (suc n) place marks before = ap₂ (λ (b : Bool) (xs : List ℕ). cond b (xs ++ n ∷ []) xs) (set_other marks place n (λ same. absurd (omega (arith, same, before)))) (kept_before n place marks (omega (arith, before)))

-- the places below a number are below it, and ascend
pub all_below : (n : ℕ) (marks : List Bool) (i d : ℕ) → i < length (places_below n marks) → get_or (places_below n marks) i d < n
all_below zero marks i d within = absurd (omega (arith, within))
all_below (suc n) marks i d within = by (all_below n marks i d) (get_or marks n false) within
  where
    by : (i < length (places_below n marks) → get_or (places_below n marks) i d < n) → (b : Bool) → i < length (cond b (places_below n marks ++ n ∷ []) (places_below n marks)) → get_or (cond b (places_below n marks ++ n ∷ []) (places_below n marks)) i d < suc n
    by rest false w = omega (arith, rest w)
    by rest true w = ⊎_elim (λ p. omega (arith, p.1, rest p.0)) (λ p. omega (arith, p.1)) (pushed_at (places_below n marks) n i d w)

pub ascend : (n : ℕ) (marks : List Bool) → IsNonDecreasingBy (λ (y : ℕ). y) (places_below n marks)
ascend zero marks = IsNonDecreasingBy-short (λ (y : ℕ). y) [] (omega arith)
ascend (suc n) marks = by (ascend n marks) (get_or marks n false)
  where
    by : IsNonDecreasingBy (λ (y : ℕ). y) (places_below n marks) → (b : Bool) → IsNonDecreasingBy (λ (y : ℕ). y) (cond b (places_below n marks ++ n ∷ []) (places_below n marks))
    by rest false = rest
    by rest true = IsNonDecreasingBy-push (λ (y : ℕ). y) (places_below n marks) n rest (λ d some. omega (arith, all_below n marks (length (places_below n marks) - 1) d (omega (arith, some))))

-- The marked places at a place: those below it, it where it is marked, and those past it, which do not depend on its mark.
pub record At (n place : ℕ) (marks : List Bool) : Type 0 where
  pub rest : List ℕ
  pub past : (i d : ℕ) → i < length rest → place < get_or rest i d
  pub is : places_below n marks ≡ places_below place marks ++ cond (get_or marks place false) (place ∷ rest) rest
  pub put : place < length marks → places_below n (slice_set marks place true) ≡ places_below place marks ++ place ∷ rest

split_here : (n : ℕ) (marks : List Bool) → At (suc n) n marks
split_here n marks = record {
  rest = [];
  past = λ i d within. absurd (omega (arith, within));
  is = by (get_or marks n false);
  put = λ within. ap₂ (λ (b : Bool) (xs : List ℕ). cond b (xs ++ n ∷ []) xs) (set_here marks n within) (kept_before n n marks (omega arith));
}
  where
    by : (b : Bool) → cond b (places_below n marks ++ n ∷ []) (places_below n marks) ≡ places_below n marks ++ cond b (n ∷ []) []
    by true = refl
    by false = sym (append-nil (places_below n marks))

split_later : (n place : ℕ) (marks : List Bool) → place < n → At n place marks → At (suc n) place marks
split_later n place marks before at = by (get_or marks n false) refl
  where
    front : List ℕ
    front = places_below place marks

    other : get_or (slice_set marks place true) n false ≡ get_or marks n false
    other = set_other marks place n (λ same. absurd (omega (arith, same, before)))

    longer : (b : Bool) → cond b (place ∷ at.rest) at.rest ++ n ∷ [] ≡ cond b (place ∷ (at.rest ++ n ∷ [])) (at.rest ++ n ∷ [])
    longer true = refl
    longer false = refl

    by : (b : Bool) → get_or marks n false ≡ b → At (suc n) place marks
    by true e = record {
      rest = at.rest ++ n ∷ [];
      past = λ i d within. ⊎_elim (λ p. omega (arith, p.1, at.past i d p.0)) (λ p. omega (arith, p.1, before)) (pushed_at at.rest n i d within);
      is = ap (λ (b : Bool). cond b (places_below n marks ++ n ∷ []) (places_below n marks)) e
          ∙ ap (λ (zs : List ℕ). zs ++ n ∷ []) at.is
          ∙ append_assoc front (cond (get_or marks place false) (place ∷ at.rest) at.rest) (n ∷ [])
          ∙ ap (λ (zs : List ℕ). front ++ zs) (longer (get_or marks place false));
      put = λ within.
          let set = slice_set marks place true in
          ap (λ (b : Bool). cond b (places_below n set ++ n ∷ []) (places_below n set)) (other ∙ e)
          ∙ ap (λ (zs : List ℕ). zs ++ n ∷ []) (at.put within)
          ∙ append_assoc front (place ∷ at.rest) (n ∷ []);
    }
    by false e = record {
      rest = at.rest;
      past = at.past;
      is = ap (λ (b : Bool). cond b (places_below n marks ++ n ∷ []) (places_below n marks)) e ∙ at.is;
      put = λ within.
          let set = slice_set marks place true in
          ap (λ (b : Bool). cond b (places_below n set ++ n ∷ []) (places_below n set)) (other ∙ e) ∙ at.put within;
    }

pub split_at : (n place : ℕ) (marks : List Bool) → place < n → At n place marks
split_at zero place marks before = absurd (omega (arith, before))
split_at (suc n) place marks before = ⊎_elim
    (λ (same : place ≡ n). subst (λ (p : ℕ). At (suc n) p marks) (sym same) (split_here n marks))
    (λ (less : place < n). split_later n place marks less (split_at n place marks less))
    (less_or_same place n (omega (arith, before)))

-- the places below a bound stand first, and those behind them are no less
pub record Front (n bound : ℕ) (marks : List Bool) : Type 0 where
  pub rest : List ℕ
  pub is : places_below n marks ≡ places_below bound marks ++ rest
  pub past : (i d : ℕ) → i < length rest → bound ≤ get_or rest i d

pub front_of : (n bound : ℕ) (marks : List Bool) → bound ≤ n → Front n bound marks
front_of n bound marks within = ⊎_elim
    (λ (same : bound ≡ n). record { rest = []; is = ap (λ (k : ℕ). places_below k marks) (sym same) ∙ sym (append-nil (places_below bound marks)); past = λ i d none. absurd (omega (arith, none)) })
    (λ (less : bound < n). let at = split_at n bound marks less in record { rest = cond (get_or marks bound false) (bound ∷ at.rest) at.rest; is = at.is; past = λ i d has. by at (get_or marks bound false) i d has })
    (less_or_same bound n within)
  where
    by : (at : At n bound marks) (b : Bool) (i d : ℕ) → i < length (cond b (bound ∷ at.rest) at.rest) → bound ≤ get_or (cond b (bound ∷ at.rest) at.rest) i d
    by at true zero d has = omega arith
    by at true (suc i) d has = omega (arith, at.past i d (omega (arith, has)))
    by at false i d has = omega (arith, at.past i d has)

-- so many places are below a bound
pub count_is : (n bound i : ℕ) (marks : List Bool) (places : List ℕ) → bound ≤ n → places ≡ places_below n marks → i ≤ length places
    → ((k : ℕ) → k < i → get_or places k 0 < bound) → ((k : ℕ) → i ≤ k → k < length places → bound ≤ get_or places k 0) → i ≡ length (places_below bound marks)
count_is n bound i marks places within are fits below past =
    let front = front_of n bound marks within in
    let first = places_below bound marks in
    let split : places ≡ first ++ front.rest = are ∙ front.is in
    let long : length places ≡ length first + length front.rest = ap (λ (xs : List ℕ). length xs) split ∙ length-append first front.rest in
    ⊎_elim
    (λ (less : i < length first).
    let here : get_or places i 0 ≡ get_or first i 0 = ap (λ (xs : List ℕ). get_or xs i 0) split ∙ get_or_append_left first front.rest 0 i less in
    absurd (omega (arith, here, all_below bound marks i 0 less, past i (omega arith) (omega (arith, long, less)))))
    (λ (le : length first ≤ i). ⊎_elim
    (λ (same : length first ≡ i). sym same)
    (λ (more : length first < i).
    let here : get_or places (length first) 0 ≡ get_or front.rest (length first - length first) 0 = ap (λ (xs : List ℕ). get_or xs (length first) 0) split ∙ get_or-append_right first front.rest (length first) (length first) 0 refl (omega arith) in
    absurd (omega (arith, here, below (length first) more, front.past (length first - length first) 0 (omega (arith, long, more, fits)))))
    (less_or_same (length first) i le))
    (below_or_not i (length first))

-- a place that stands there has as many places before it as there are below it
pub place_count : (n place i : ℕ) (marks : List Bool) (places : List ℕ) → place < n → places ≡ places_below n marks → i < length places → get_or places i 0 ≡ place → i ≡ length (places_below place marks)
place_count n place i marks places before are within is = ⊎_elim
    (λ (less : i < length first). absurd (omega (arith, here, is, get_or_append_left first (behind (get_or marks place false)) 0 i less, all_below place marks i 0 less)))
    (λ (le : length first ≤ i). ⊎_elim
    (λ (same : length first ≡ i). sym same)
    (λ (more : length first < i). absurd (by (get_or marks place false) more
    (omega (arith, within, ap (λ (xs : List ℕ). length xs) split, length-append first (behind (get_or marks place false))))
    (sym (get_or-append_right first (behind (get_or marks place false)) (length first) i 0 refl le) ∙ sym (ap (λ (xs : List ℕ). get_or xs i 0) split) ∙ is)))
    (less_or_same (length first) i le))
    (below_or_not i (length first))
  where
    at : At n place marks
    at = split_at n place marks before

    first : List ℕ
    first = places_below place marks

    behind : Bool → List ℕ
    behind b = cond b (place ∷ at.rest) at.rest

    split : places ≡ first ++ behind (get_or marks place false)
    split = are ∙ at.is

    here : get_or places i 0 ≡ get_or (first ++ behind (get_or marks place false)) i 0
    here = ap (λ (xs : List ℕ). get_or xs i 0) split

    one_less : (a b : ℕ) → a < b → (k : ℕ) × (b - a ≡ suc k)
    one_less a b less = (b - a - 1, omega (arith, less))

    by : (b : Bool) → length first < i → i < length first + length (behind b) → get_or (behind b) (i - length first) 0 ≡ place → ⊥
    by true more has same =
        let k = one_less (length first) i more in
        let there : get_or at.rest k.0 0 ≡ place = sym (ap (λ (j : ℕ). get_or (place ∷ at.rest) j 0) k.1) ∙ same in
        omega (arith, there, at.past k.0 0 (omega (arith, k.1, has)))
    by false more has same = omega (arith, same, at.past (i - length first) 0 (omega (arith, more, has)))

-- a mark that is new is put where it belongs, and one that stands is found there
module _ (n place i : ℕ) (marks : List Bool) (places : List ℕ) (before : place < n) (are : places ≡ places_below n marks) (count : i ≡ length (places_below place marks)) where
  abbrev split : At n place marks
  split = split_at n place marks before

  abbrev first : List ℕ
  first = places_below place marks

  -- what stands there
  there : (d : ℕ) → get_or places i d ≡ get_or (cond (get_or marks place false) (place ∷ split.rest) split.rest) (i - i) d
  there d = ap (λ (xs : List ℕ). get_or xs i d) (are ∙ split.is) ∙ get_or-append_right first (cond (get_or marks place false) (place ∷ split.rest) split.rest) i i d (sym count) (omega arith)

  zero_is : i - i ≡ 0
  zero_is = omega arith

  within_is : (b : Bool) → get_or marks place false ≡ b → i < length places → 0 < length (cond b (place ∷ split.rest) split.rest)
  within_is b e within = let long = ap (λ (xs : List ℕ). length xs) (are ∙ split.is ∙ ap (λ (c : Bool). first ++ cond c (place ∷ split.rest) split.rest) e) ∙ length-append first (cond b (place ∷ split.rest) split.rest) in omega (arith, long, count, within)

  pub found_marked : i < length places → get_or places i 0 ≡ place → get_or marks place false ≡ true
  found_marked within is = by (get_or marks place false) refl
    where
      by : (b : Bool) → get_or marks place false ≡ b → b ≡ true
      by true e = refl
      by false e =
          let same : place ≡ get_or split.rest 0 0 = sym is ∙ there 0 ∙ ap₂ (λ (c : Bool) (k : ℕ). get_or (cond c (place ∷ split.rest) split.rest) k 0) e zero_is in
          absurd (omega (arith, same, split.past 0 0 (within_is false e within)))

  pub marked_found : get_or marks place false ≡ true → (i < length places) × (get_or places i 0 ≡ place)
  marked_found e =
      let long = ap (λ (xs : List ℕ). length xs) (are ∙ split.is ∙ ap (λ (c : Bool). first ++ cond c (place ∷ split.rest) split.rest) e) ∙ length-append first (place ∷ split.rest) in
      (omega (arith, long, count), there 0 ∙ ap₂ (λ (c : Bool) (k : ℕ). get_or (cond c (place ∷ split.rest) split.rest) k 0) e zero_is)

  -- a place that is found stands already
  pub mark_again : i < length places → get_or places i 0 ≡ place → places ≡ places_below n (slice_set marks place true)
  mark_again within is = are ∙ ap (places_below n) (sym (set_again marks place (found_marked within is)))

  -- and one that is not is put there
  pub mark_new : place < length marks → (i < length places → get_or places i 0 ≡ place → ⊥) → insert places i place ≡ places_below n (slice_set marks place true)
  mark_new stands other = by (get_or marks place false) refl
    where
      by : (b : Bool) → get_or marks place false ≡ b → insert places i place ≡ places_below n (slice_set marks place true)
      by true e = let found = marked_found e in absurd (other found.0 found.1)
      by false e =
          ap (λ (xs : List ℕ). insert xs i place) (are ∙ split.is ∙ ap (λ (c : Bool). first ++ cond c (place ∷ split.rest) split.rest) e)
          ∙ insert-append_right first split.rest i i place (sym count) (omega arith)
          ∙ ap (λ (k : ℕ). first ++ insert split.rest k place) zero_is
          ∙ sym (split.put stands)

-- a place past all rows marks nothing
pub mark_past : (n place : ℕ) (marks : List Bool) → n ≤ place → places_below n (slice_set marks place true) ≡ places_below n marks
mark_past n place marks past = kept_before n place marks past
