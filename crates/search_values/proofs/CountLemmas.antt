-- Values by counts.
use Rattle.std.proofs.Common.{suc, ◌≡◌, ◌≤◌, ◌<◌, ◌+◌, ℕ, Bool, List, [], ◌∷◌, length, count_by, if◌then◌else◌, ◌==◌, nat_lt, refl, sym, ◌∙◌, ap, arith, zero-add}
use Rattle.std.proofs.lemmas.List.Sums.{sum_by-cons, count_by-le-length}
use Rattle.std.proofs.lemmas.Bool.{lt-ltb, le-ltb, eq-eqb, ne_eqb}
use Rattle.formula_truth.specs.declared.truth.Truth.{Truth}
use Rattle.formula_truth.specs.declared.truth.Truth.TheVariants.{Yes, No, Unset}
use Rattle.search_board.specs.declared.kind.Kind.{Kind}
use Rattle.search_board.specs.declared.kind.Kind.TheVariants.{Leaf, And, Or}
use Rattle.search_board.specs.declared.place.Place.{Place}
use Rattle.formula_truth.specs.Truths.{is_yes_value, is_no_value, and_of, or_of, all_of, some_of}
use Rattle.search_board.specs.Values.{value_of}
use Rattle.search_board.specs.Places.{counts_of}
use Rattle.search_values.specs.Settled.{told_by}
use Rattle.search_values.specs.Counted.{value_by}

count-cons : {A : Type 0} (p : A → Bool) (x : A) (xs : List A) → count_by p (x ∷ xs) ≡ (if p x then 1 else 0) + count_by p xs
count-cons p x xs = sum_by-cons (λ y. if p y then 1 else 0) x xs

count_told : (p : Truth → Bool) (places : List Place) → count_by (λ (place : Place). p place.told) places ≡ count_by p (told_by places)
count_told p [] = refl
count_told p (place ∷ places) = count-cons (λ (x : Place). p x.told) place places ∙ ap (λ k. (if p place.told then 1 else 0) + k) (count_told p places) ∙ sym (count-cons p place.told (told_by places))

length_told : (places : List Place) → length (told_by places) ≡ length places
length_told [] = refl
length_told (place ∷ places) = ap suc (length_told places)

one_suc : (k : ℕ) → 1 + k ≡ suc k
one_suc k = omega arith

-- how a conjunction with so many parts of each value stands
data AllCase (len y n : ℕ) : Truth → Type 0 where
  has_no : 0 < n → AllCase len y n No
  all_yes : n ≡ 0 → y ≡ len → AllCase len y n Yes
  undecided : n ≡ 0 → y < len → AllCase len y n Unset

all_more : (len y n y' n' : ℕ) (t : Truth) → AllCase len y n t → y' ≡ suc y → n' ≡ n → AllCase (suc len) y' n' t
all_more len y n y' n' No (has_no some) e f = has_no (omega arith)
all_more len y n y' n' Yes (all_yes none all) e f = all_yes (omega arith) (omega arith)
all_more len y n y' n' Unset (undecided none less) e f = undecided (omega arith) (omega arith)

all_unset : (len y n y' n' : ℕ) (t : Truth) → AllCase len y n t → y' ≡ y → n' ≡ n → y ≤ len → AllCase (suc len) y' n' (and_of Unset t)
all_unset len y n y' n' No (has_no some) e f le = has_no (omega arith)
all_unset len y n y' n' Yes (all_yes none all) e f le = undecided (omega arith) (omega arith)
all_unset len y n y' n' Unset (undecided none less) e f le = undecided (omega arith) (omega arith)

all_case : (ts : List Truth) → AllCase (length ts) (count_by is_yes_value ts) (count_by is_no_value ts) (all_of ts)
all_case [] = all_yes refl refl
all_case (Yes ∷ ts) = all_more _ _ _ _ _ (all_of ts) (all_case ts) (count-cons is_yes_value Yes ts ∙ one_suc _) (count-cons is_no_value Yes ts ∙ zero-add _)
all_case (No ∷ ts) = has_no (omega (arith, count-cons is_no_value No ts))
all_case (Unset ∷ ts) = all_unset _ _ _ _ _ (all_of ts) (all_case ts) (count-cons is_yes_value Unset ts ∙ zero-add _) (count-cons is_no_value Unset ts ∙ zero-add _) (count_by-le-length is_yes_value ts)

all_by : (len y n : ℕ) (t : Truth) → AllCase len y n t → (if nat_lt 0 n then No else (if y == len then Yes else Unset)) ≡ t
all_by len y n No (has_no some) = rw (lt-ltb 0 n some) refl
all_by len y n Yes (all_yes none all) = rw (le-ltb 0 n (omega arith), eq-eqb y len all) refl
all_by len y n Unset (undecided none less) = rw (le-ltb 0 n (omega arith), ne_eqb y len (omega arith)) refl

-- how a disjunction with so many parts of each value stands
data SomeCase (len y n : ℕ) : Truth → Type 0 where
  has_yes : 0 < y → SomeCase len y n Yes
  all_no : y ≡ 0 → n ≡ len → SomeCase len y n No
  undecided : y ≡ 0 → n < len → SomeCase len y n Unset

some_more : (len y n y' n' : ℕ) (t : Truth) → SomeCase len y n t → y' ≡ y → n' ≡ suc n → SomeCase (suc len) y' n' t
some_more len y n y' n' Yes (has_yes some) e f = has_yes (omega arith)
some_more len y n y' n' No (all_no none all) e f = all_no (omega arith) (omega arith)
some_more len y n y' n' Unset (SomeCase.undecided none less) e f = SomeCase.undecided (omega arith) (omega arith)

some_unset : (len y n y' n' : ℕ) (t : Truth) → SomeCase len y n t → y' ≡ y → n' ≡ n → n ≤ len → SomeCase (suc len) y' n' (or_of Unset t)
some_unset len y n y' n' Yes (has_yes some) e f le = has_yes (omega arith)
some_unset len y n y' n' No (all_no none all) e f le = SomeCase.undecided (omega arith) (omega arith)
some_unset len y n y' n' Unset (SomeCase.undecided none less) e f le = SomeCase.undecided (omega arith) (omega arith)

some_case : (ts : List Truth) → SomeCase (length ts) (count_by is_yes_value ts) (count_by is_no_value ts) (some_of ts)
some_case [] = all_no refl refl
some_case (Yes ∷ ts) = has_yes (omega (arith, count-cons is_yes_value Yes ts))
some_case (No ∷ ts) = some_more _ _ _ _ _ (some_of ts) (some_case ts) (count-cons is_yes_value No ts ∙ zero-add _) (count-cons is_no_value No ts ∙ one_suc _)
some_case (Unset ∷ ts) = some_unset _ _ _ _ _ (some_of ts) (some_case ts) (count-cons is_yes_value Unset ts ∙ zero-add _) (count-cons is_no_value Unset ts ∙ zero-add _) (count_by-le-length is_no_value ts)

some_by : (len y n : ℕ) (t : Truth) → SomeCase len y n t → (if nat_lt 0 y then Yes else (if n == len then No else Unset)) ≡ t
some_by len y n Yes (has_yes some) = rw (lt-ltb 0 y some) refl
some_by len y n No (all_no none all) = rw (le-ltb 0 y (omega arith), eq-eqb n len all) refl
some_by len y n Unset (SomeCase.undecided none less) = rw (le-ltb 0 y (omega arith), ne_eqb n len (omega arith)) refl

-- the value by counts is the value by what the places were told
pub value_by-counts : (kind : Kind) (truth : Truth) (places : List Place) → value_by kind truth (length places) (counts_of places) ≡ value_of kind (told_by places) truth
value_by-counts Leaf truth places = refl
value_by-counts And truth places = rw (count_told is_yes_value places, count_told is_no_value places, ← length_told places) (all_by _ _ _ _ (all_case (told_by places)))
value_by-counts Or truth places = rw (count_told is_yes_value places, count_told is_no_value places, ← length_told places) (some_by _ _ _ _ (some_case (told_by places)))
