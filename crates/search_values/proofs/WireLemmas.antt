-- The places whose part each node is, in order.
use Rattle.std.proofs.Common.{zero, suc, ◌≡◌, ◌<◌, ◌≤◌, ◌+◌, ◌-◌, ◌^◌, ◌==◌, ◌⊎◌, inl, inr, ℕ, Bool, true, false, if◌then◌else◌, List, [], ◌∷◌, ◌++◌, length, take, slice_index_or, slice_set, slice_get, Some, Contains, All, refl, sym, ◌∙◌, ap, subst, arith, length-append, append_assoc, append-nil}
use Rattle.std.proofs.Math.ListN.{length-set}
use Rattle.std.proofs.lemmas.Bool.{eqb-true, eq-eqb}
use Rattle.std.proofs.lemmas.Bool.Decides.{eqb_tells}
use Rattle.std.proofs.lemmas.List.{take_more, take_all, length-take}
use Rattle.std.proofs.lemmas.List.Elements.{Contains-append_left, Contains-append_right, Contains-append_cases, Contains-get_or}
use Rattle.search_values.specs.declared.up.Up.{Up}
use Rattle.search_values.specs.Wiring.{Wires, IsPlace, IsWired, up, parts_at, part_at, ups_at, up_at, places_with, ups_from}
use Rattle.search_values.specs.WiresUps.{WiresUps, ups_in}
use Rattle.search_values.proofs.ListLemmas.{get-set_same, get-set_other, same_or_not, same_default, list_within}

-- ---- lists

get_push : {A : Type 0} (xs : List A) (x d : A) (k : ℕ) → k < length xs → slice_index_or (xs ++ x ∷ []) k d ≡ slice_index_or xs k d
get_push [] x d k h = absurd (omega arith)
get_push (y ∷ ys) x d zero h = refl
get_push (y ∷ ys) x d (suc k) h = get_push ys x d k (omega arith)

get_last : {A : Type 0} (xs : List A) (x d : A) (k : ℕ) → k ≡ length xs → slice_index_or (xs ++ x ∷ []) k d ≡ x
get_last [] x d zero e = refl
get_last [] x d (suc k) e = absurd (omega arith)
get_last (y ∷ ys) x d zero e = absurd (omega arith)
get_last (y ∷ ys) x d (suc k) e = get_last ys x d k (omega arith)

get_default : {A : Type 0} (xs : List A) (d : A) (k : ℕ) → slice_index_or (xs ++ d ∷ []) k d ≡ slice_index_or xs k d
get_default [] d zero = refl
get_default [] d (suc k) = refl
get_default (y ∷ ys) d zero = refl
get_default (y ∷ ys) d (suc k) = get_default ys d k

past_end : {A : Type 0} (xs : List A) (d : A) (k : ℕ) → length xs ≤ k → slice_index_or xs k d ≡ d
past_end [] d k h = refl
past_end (x ∷ xs) d zero h = absurd (omega arith)
past_end (x ∷ xs) d (suc k) h = past_end xs d k (omega arith)

get_take : {A : Type 0} (xs : List A) (n k : ℕ) (d : A) → k < n → slice_index_or (take n xs) k d ≡ slice_index_or xs k d
get_take [] zero k d h = refl
get_take [] (suc n) k d h = refl
get_take (x ∷ xs) zero k d h = absurd (omega arith)
get_take (x ∷ xs) (suc n) zero d h = refl
get_take (x ∷ xs) (suc n) (suc k) d h = get_take xs n k d (omega arith)

length-push : {A : Type 0} (xs : List A) (x : A) → length (xs ++ x ∷ []) ≡ length xs + 1
length-push xs x = length-append xs (x ∷ [])

take_front : {A : Type 0} (xs : List A) (x : A) (n : ℕ) → n ≡ length xs → take n (xs ++ x ∷ []) ≡ xs
take_front [] x zero e = refl
take_front [] x (suc n) e = absurd (omega arith)
take_front (y ∷ ys) x zero e = absurd (omega arith)
take_front (y ∷ ys) x (suc n) e = ap (λ zs. y ∷ zs) (take_front ys x n (omega arith))

left_none : {A : Type 0} (xs ys : List A) → xs ++ ys ≡ [] → xs ≡ []
left_none [] ys e = refl
left_none (x ∷ xs) ys e = cc

same_list : {A : Type 0} (xs ys : List (List A)) → length xs ≡ length ys → ((m : ℕ) → slice_index_or xs m [] ≡ slice_index_or ys m []) → xs ≡ ys
same_list [] [] e same = refl
same_list [] (y ∷ ys) e same = absurd (omega (arith, e))
same_list (x ∷ xs) [] e same = absurd (omega (arith, e))
same_list (x ∷ xs) (y ∷ ys) e same = both x y xs ys (same 0) (same_list xs ys (omega (arith, e)) (λ m. same (suc m)))
  where
    both : {A : Type 0} (a b : List A) (us vs : List (List A)) → a ≡ b → us ≡ vs → a ∷ us ≡ b ∷ vs
    both a b us vs p q = cc

before_or_last : (k n : ℕ) → k < n + 1 → (k < n) ⊎ (k ≡ n)
before_or_last k n h = search arith

pub get_some : {A : Type 0} (xs : List A) (i : ℕ) (x d : A) → slice_get xs i ≡ Some x → slice_index_or xs i d ≡ x
get_some [] i x d e = cc
get_some (y ∷ ys) zero x d e = cc
get_some (y ∷ ys) (suc i) x d e = get_some ys i x d e

pub all_below : (xs : List ℕ) (n : ℕ) → All (λ x. x < n) xs → (i : ℕ) → i < length xs → slice_index_or xs i 0 < n
all_below xs n all i lt = all i 0 lt

-- ---- the places of one node

abbrev if_part : ℕ → ℕ → Up → List Up
if_part part m u = if part == m then u ∷ [] else []

here_part : (part m : ℕ) (u : Up) → part ≡ m → if_part part m u ≡ u ∷ []
here_part part m u e = ap (λ (b : Bool). if b then u ∷ [] else []) (eq-eqb part m e)

other_part : (part m : ℕ) (u : Up) → (part ≡ m → ⊥) → if_part part m u ≡ []
other_part part m u ne = elim (eqb_tells part m) [
  | inl is_m ↦ absurd (ne is_m.1)
  | inr not_m ↦ ap (λ (b : Bool). if b then u ∷ [] else []) not_m.0
]

places_push : (m node place : ℕ) (parts : List ℕ) (part : ℕ) → places_with m node place (parts ++ part ∷ []) ≡ places_with m node place parts ++ if_part part m (up node (place + length parts))
places_push m node place [] part =
    let same : place ≡ place + 0 = omega arith in
    append-nil (if_part part m (up node place)) ∙ ap (λ (p : ℕ). if_part part m (up node p)) same
places_push m node place (p ∷ ps) part =
    let same : (place + 1) + length ps ≡ place + length (p ∷ ps) = omega arith in
    ap (λ (us : List Up). if_part p m (up node place) ++ us) (places_push m node (place + 1) ps part ∙ ap (λ (q : ℕ). places_with m node (place + 1) ps ++ if_part part m (up node q)) same)
    ∙ sym (append_assoc (if_part p m (up node place)) (places_with m node (place + 1) ps) (if_part part m (up node (place + length (p ∷ ps)))))

-- one place more
places_next : (m n i : ℕ) (parts : List ℕ) → i < length parts → places_with m n 0 (take (i + 1) parts) ≡ places_with m n 0 (take i parts) ++ if_part (slice_index_or parts i 0) m (up n i)
places_next m n i parts lt =
    let count : 0 + length (take i parts) ≡ i = omega (arith, length-take i parts) in
    ap (places_with m n 0) (take_more parts i 0 lt) ∙ places_push m n 0 (take i parts) (slice_index_or parts i 0)
    ∙ ap (λ (q : ℕ). places_with m n 0 (take i parts) ++ if_part (slice_index_or parts i 0) m (up n q)) count

places_same : (m n i part : ℕ) (parts : List ℕ) → i < length parts → slice_index_or parts i 0 ≡ part → m ≡ part → places_with m n 0 (take (i + 1) parts) ≡ places_with m n 0 (take i parts) ++ up n i ∷ []
places_same m n i part parts lt is same = places_next m n i parts lt ∙ ap (λ (us : List Up). places_with m n 0 (take i parts) ++ us) (here_part (slice_index_or parts i 0) m (up n i) (is ∙ sym same))

places_other : (m n i part : ℕ) (parts : List ℕ) → i < length parts → slice_index_or parts i 0 ≡ part → (m ≡ part → ⊥) → places_with m n 0 (take (i + 1) parts) ≡ places_with m n 0 (take i parts)
places_other m n i part parts lt is ne = places_next m n i parts lt ∙ ap (λ (us : List Up). places_with m n 0 (take i parts) ++ us) (other_part (slice_index_or parts i 0) m (up n i) (λ e. ne (sym e ∙ is))) ∙ append-nil (places_with m n 0 (take i parts))

-- ---- places that are put behind the ups of parts, and taken from there

pub wires_none : (ups : List (List Up)) (parts : List ℕ) (n : ℕ) → WiresUps (ups_in ups) (length ups) ups parts n 0
wires_none ups parts n = record { len_is = refl; are = λ m. sym (append-nil (ups_in ups m)) ∙ ap (λ (us : List Up). ups_in ups m ++ us) (none parts m) }
  where
    none : (ps : List ℕ) (m : ℕ) → [] ≡ places_with m n 0 (take 0 ps)
    none [] m = refl
    none (p ∷ ps) m = refl

module _ (base : ℕ → List Up) (len : ℕ) (ups : List (List Up)) (parts : List ℕ) (n i part : ℕ) (lt : i < length parts) (is : slice_index_or parts i 0 ≡ part) (within : part < length ups) where
  pub wires_more : WiresUps base len ups parts n i → WiresUps base len (slice_set ups part (slice_index_or ups part [] ++ up n i ∷ [])) parts n (i + 1)
  wires_more wires =
      let list = slice_index_or ups part [] in
      let new = list ++ up n i ∷ [] in
      record {
        len_is = length-set ups part new ∙ wires.len_is;
        are = λ m. elim (same_or_not m part) [
          | inl same ↦ ap (λ (k : ℕ). slice_index_or (slice_set ups part new) k []) same ∙ get-set_same ups part new [] within
              ∙ ap (λ (k : ℕ). slice_index_or ups k [] ++ up n i ∷ []) (sym same)
              ∙ ap (λ (us : List Up). us ++ up n i ∷ []) (wires.are m)
              ∙ append_assoc (base m) (places_with m n 0 (take i parts)) (up n i ∷ [])
              ∙ ap (λ (us : List Up). base m ++ us) (sym (places_same m n i part parts lt is same))
          | inr other ↦ get-set_other ups part m new [] other ∙ wires.are m ∙ ap (λ (us : List Up). base m ++ us) (sym (places_other m n i part parts lt is other))
        ];
      }

  last_is : WiresUps base len ups parts n (i + 1) → slice_index_or ups part [] ≡ (base part ++ places_with part n 0 (take i parts)) ++ up n i ∷ []
  last_is wires = wires.are part ∙ ap (λ (us : List Up). base part ++ us) (places_same part n i part parts lt is refl) ∙ sym (append_assoc (base part) (places_with part n 0 (take i parts)) (up n i ∷ []))

  -- there is one to be taken
  pub some_there : WiresUps base len ups parts n (i + 1) → 0 < length (slice_index_or ups part [])
  some_there wires = omega (arith, ap length (last_is wires), length-push (base part ++ places_with part n 0 (take i parts)) (up n i))

  pub wires_less : WiresUps base len ups parts n (i + 1) → WiresUps base len (slice_set ups part (take (length (slice_index_or ups part []) - 1) (slice_index_or ups part []))) parts n i
  wires_less wires =
      let list = slice_index_or ups part [] in
      let rest = base part ++ places_with part n 0 (take i parts) in
      let new = take (length list - 1) list in
      let count : length (rest ++ up n i ∷ []) - 1 ≡ length rest = omega (arith, length-push rest (up n i)) in
      let new_is : new ≡ rest = ap (λ (us : List Up). take (length us - 1) us) (last_is wires) ∙ take_front rest (up n i) (length (rest ++ up n i ∷ []) - 1) count in
      record {
        len_is = length-set ups part new ∙ wires.len_is;
        are = λ m. elim (same_or_not m part) [
          | inl same ↦ ap (λ (k : ℕ). slice_index_or (slice_set ups part new) k []) same ∙ get-set_same ups part new [] within ∙ new_is
              ∙ ap (λ (k : ℕ). base k ++ places_with k n 0 (take i parts)) (sym same)
          | inr other ↦ get-set_other ups part m new [] other ∙ wires.are m ∙ ap (λ (us : List Up). base m ++ us) (places_other m n i part parts lt is other)
        ];
      }

pub wires_at : (base : ℕ → List Up) (len : ℕ) (ups : List (List Up)) (parts : List ℕ) (n count : ℕ) → WiresUps base len ups parts n count → WiresUps base (length ups) ups parts n count
wires_at base len ups parts n count wires = record { len_is = refl; are = wires.are }

-- all is as it was once nothing is put
pub wires_back : (old new : List (List Up)) (parts : List ℕ) (n len : ℕ) → len ≡ length old → WiresUps (ups_in old) len new parts n 0 → new ≡ old
wires_back old new parts n len e wires = same_list new old (wires.len_is ∙ e) (λ m. wires.are m ∙ ap (λ (us : List Up). ups_in old m ++ us) (none parts m) ∙ append-nil (ups_in old m))
  where
    none : (ps : List ℕ) (m : ℕ) → places_with m n 0 (take 0 ps) ≡ []
    none [] m = refl
    none (p ∷ ps) m = refl

-- ---- the ups of all nodes

ups_push : (m node : ℕ) (rest : List (List ℕ)) (parts : List ℕ) → ups_from m node (rest ++ parts ∷ []) ≡ ups_from m node rest ++ places_with m (node + length rest) 0 parts
ups_push m node [] parts = let same : node ≡ node + 0 = omega arith in append-nil (places_with m node 0 parts) ∙ ap (λ (k : ℕ). places_with m k 0 parts) same
ups_push m node (ps ∷ rest) parts =
    let same : (node + 1) + length rest ≡ node + length (ps ∷ rest) = omega arith in
    ap (λ (us : List Up). places_with m node 0 ps ++ us) (ups_push m (node + 1) rest parts ∙ ap (λ (k : ℕ). ups_from m (node + 1) rest ++ places_with m k 0 parts) same)
    ∙ sym (append_assoc (places_with m node 0 ps) (ups_from m (node + 1) rest) (places_with m (node + length (ps ∷ rest)) 0 parts))

places_listed : (m node place : ℕ) (parts : List ℕ) (i : ℕ) → i < length parts → slice_index_or parts i 0 ≡ m → Contains (places_with m node place parts) (up node (place + i))
places_listed m node place [] i h e = absurd (omega arith)
places_listed m node place (p ∷ ps) zero h e =
    let same : place ≡ place + 0 = omega arith in
    Contains-append_left (if_part p m (up node place)) (places_with m node (place + 1) ps) (up node (place + 0))
    (subst (λ (us : List Up). Contains us (up node (place + 0))) (sym (here_part p m (up node place) e)) (0, omega arith, ap (λ (q : ℕ). up node q) same))
places_listed m node place (p ∷ ps) (suc i) h e =
    let same : (place + 1) + i ≡ place + suc i = omega arith in
    Contains-append_right (if_part p m (up node place)) (places_with m node (place + 1) ps) (up node (place + suc i))
    (subst (λ (q : ℕ). Contains (places_with m node (place + 1) ps) (up node q)) same (places_listed m node (place + 1) ps i (omega arith) e))

ups_listed : (m node : ℕ) (rest : List (List ℕ)) (k i : ℕ) → k < length rest → i < length (slice_index_or rest k []) → slice_index_or (slice_index_or rest k []) i 0 ≡ m → Contains (ups_from m node rest) (up (node + k) i)
ups_listed m node [] k i h lt e = absurd (omega arith)
ups_listed m node (ps ∷ rest) zero i h lt e =
    let same : node ≡ node + 0 = omega arith in
    let at : 0 + i ≡ i = omega arith in
    Contains-append_left (places_with m node 0 ps) (ups_from m (node + 1) rest) (up (node + 0) i)
    (subst (λ (k : ℕ). Contains (places_with m node 0 ps) (up k i)) same (subst (λ (q : ℕ). Contains (places_with m node 0 ps) (up node q)) at (places_listed m node 0 ps i lt e)))
ups_listed m node (ps ∷ rest) (suc k) i h lt e =
    let same : (node + 1) + k ≡ node + suc k = omega arith in
    Contains-append_right (places_with m node 0 ps) (ups_from m (node + 1) rest) (up (node + suc k) i)
    (subst (λ (q : ℕ). Contains (ups_from m (node + 1) rest) (up q i)) same (ups_listed m (node + 1) rest k i (omega arith) lt e))

-- the place of a node whose part is m
record IsPlaceWith (m node place : ℕ) (parts : List ℕ) (u : Up) : Type 0 where
  i : ℕ
  lt : i < length parts
  part : slice_index_or parts i 0 ≡ m
  is : up node (place + i) ≡ u

place_is : (m node place : ℕ) (parts : List ℕ) (u : Up) → Contains (places_with m node place parts) u → IsPlaceWith m node place parts u
place_is m node place [] u on = absurd (omega (arith, on.1))
place_is m node place (p ∷ ps) u on = elim (Contains-append_cases (if_part p m (up node place)) (places_with m node (place + 1) ps) u on) [
  | inl first ↦ elim (eqb_tells p m) [
    | inl is_m ↦ let same : place ≡ place + 0 = omega arith in
        let one = subst (λ (us : List Up). Contains us u) (here_part p m (up node place) is_m.1) first in
        record { i = 0; lt = omega arith; part = is_m.1; is = ap (λ (q : ℕ). up node q) (sym same) ∙ only (up node place) one }
    | inr not_m ↦ absurd (none (subst (λ (us : List Up). Contains us u) (other_part p m (up node place) not_m.1) first))
  ]
  | inr later ↦ let at = place_is m node (place + 1) ps u later in
      let same : place + suc at.i ≡ (place + 1) + at.i = omega arith in
      record { i = suc at.i; lt = omega (arith, at.lt); part = at.part; is = ap (λ (q : ℕ). up node q) same ∙ at.is }
]
  where
    only : (v : Up) → Contains (v ∷ []) u → v ≡ u
    only v (zero, lt, e) = e
    only v (suc k, lt, e) = absurd (omega (arith, lt))

    none : Contains [] u → ⊥
    none on = omega (arith, on.1)

-- the place of some node whose part is m
record IsUpFrom (m node : ℕ) (rest : List (List ℕ)) (u : Up) : Type 0 where
  k : ℕ
  i : ℕ
  stands : k < length rest
  lt : i < length (slice_index_or rest k [])
  part : slice_index_or (slice_index_or rest k []) i 0 ≡ m
  is : up (node + k) i ≡ u

up_is : (m node : ℕ) (rest : List (List ℕ)) (u : Up) → Contains (ups_from m node rest) u → IsUpFrom m node rest u
up_is m node [] u on = absurd (omega (arith, on.1))
up_is m node (ps ∷ rest) u on = elim (Contains-append_cases (places_with m node 0 ps) (ups_from m (node + 1) rest) u on) [
  | inl first ↦ let at = place_is m node 0 ps u first in
      let same : node + 0 ≡ node = omega arith in
      let place : at.i ≡ 0 + at.i = omega arith in
      record { k = 0; i = at.i; stands = omega arith; lt = at.lt; part = at.part; is = ap (λ (q : ℕ). up q at.i) same ∙ ap (λ (q : ℕ). up node q) place ∙ at.is }
  | inr later ↦ let at = up_is m (node + 1) rest u later in
      let same : node + suc at.k ≡ (node + 1) + at.k = omega arith in
      record { k = suc at.k; i = at.i; stands = omega (arith, at.stands); lt = at.lt; part = at.part; is = ap (λ (q : ℕ). up q at.i) same ∙ at.is }
]

-- ---- wires

module _ (wires : Wires) (aligned : length wires.ups ≡ length wires.parts) (few : length wires.parts < 2 ^ 32) (earlier : (n i : ℕ) → IsPlace wires n i → part_at wires n i < n) (are : (m : ℕ) → ups_at wires m ≡ ups_from m 0 wires.parts) where
  right_up : (m : ℕ) (u : Up) → Contains (ups_at wires m) u → IsPlace wires u.node u.place × (part_at wires u.node u.place ≡ m)
  right_up m u on =
      let at = up_is m 0 wires.parts u (subst (λ (us : List Up). Contains us u) (are m) on) in
      let node : at.k ≡ 0 + at.k = omega arith in
      let is : up at.k at.i ≡ u = ap (λ (k : ℕ). up k at.i) node ∙ at.is in
      subst (λ (v : Up). IsPlace wires v.node v.place × (part_at wires v.node v.place ≡ m)) is (record { node = at.stands; place = at.lt }, at.part)

  pub wired_of : IsWired wires
  wired_of = record {
    aligned = aligned;
    few = few;
    earlier = earlier;
    are = are;
    listed = λ n i at. let node : 0 + n ≡ n = omega arith in
        subst (λ (us : List Up). Contains us (up n i)) (sym (are (part_at wires n i)))
        (subst (λ (k : ℕ). Contains (ups_from (part_at wires n i) 0 wires.parts) (up k i)) node (ups_listed (part_at wires n i) 0 wires.parts n i at.node at.place refl));
    is_place = λ m k h lt. (right_up m (up_at wires m k) (Contains-get_or (ups_at wires m) k (up 0 0) lt)).0;
    is_part = λ m k h lt. (right_up m (up_at wires m k) (Contains-get_or (ups_at wires m) k (up 0 0) lt)).1;
  }

-- no nodes
pub wired_none : (wires : Wires) → wires.parts ≡ [] → wires.ups ≡ [] → IsWired wires
wired_none wires parts ups = wired_of wires (ap length ups ∙ sym (ap length parts)) (omega (arith, ap length parts)) (λ n i at. absurd (omega (arith, at.node, ap length parts)))
    (λ m. ap (λ (us : List (List Up)). slice_index_or us m []) ups ∙ ap (ups_from m 0) (sym parts))

-- a node whose places were put
module _ (wires : Wires) (wired : IsWired wires) (parts : List ℕ) (ups : List (List Up)) (earlier : (i : ℕ) → i < length parts → slice_index_or parts i 0 < length wires.parts) (few : length wires.parts + 1 < 2 ^ 32)
    (put : WiresUps (ups_in (wires.ups ++ [] ∷ [])) (length (wires.ups ++ [] ∷ [])) ups parts (length wires.parts) (length parts)) where
  abbrev grown : Wires
  grown = record { parts = wires.parts ++ parts ∷ []; ups = ups }

  count : length (wires.parts ++ parts ∷ []) ≡ length wires.parts + 1
  count = length-push wires.parts parts

  pub wired_more : IsWired (record { parts = wires.parts ++ parts ∷ []; ups = ups })
  wired_more = wired_of grown (omega (arith, put.len_is, length-push wires.ups [], count, wired.aligned)) (omega (arith, count, few))
      (λ n i at. elim (before_or_last n (length wires.parts) (omega (arith, at.node, count))) [
        | inl before ↦ let same = get_push wires.parts parts [] n before in
            let old : IsPlace wires n i = record { node = before; place = omega (arith, at.place, ap length same) } in
            let lt = wired.earlier n i old in
            omega (arith, lt, ap (λ (xs : List ℕ). slice_index_or xs i 0) same)
        | inr here ↦ let same = get_last wires.parts parts [] n here in
            let lt = earlier i (omega (arith, at.place, ap length same)) in
            omega (arith, lt, here, ap (λ (xs : List ℕ). slice_index_or xs i 0) same)
      ])
      (λ m. let node : length wires.parts ≡ 0 + length wires.parts = omega arith in
      put.are m ∙ ap (λ (us : List Up). us ++ places_with m (length wires.parts) 0 (take (length parts) parts)) (get_default wires.ups [] m ∙ wired.are m)
      ∙ ap (λ (ps : List ℕ). ups_from m 0 wires.parts ++ places_with m (length wires.parts) 0 ps) (take_all (length parts) parts (omega arith))
      ∙ ap (λ (k : ℕ). ups_from m 0 wires.parts ++ places_with m k 0 parts) node
      ∙ sym (ups_push m 0 wires.parts parts))

-- the last node, whose places are taken from where they were put
module _ (wires : Wires) (wired : IsWired wires) (rest : List (List ℕ)) (parts : List ℕ) (is : wires.parts ≡ rest ++ parts ∷ []) where
  many : length wires.parts ≡ length rest + 1
  many = ap length is ∙ length-push rest parts

  -- its places were put last
  pub last_put : WiresUps (λ m. ups_from m 0 rest) (length wires.ups) wires.ups parts (length rest) (length parts)
  last_put = record {
    len_is = refl;
    are = λ m. let node : 0 + length rest ≡ length rest = omega arith in
        wired.are m ∙ ap (ups_from m 0) is ∙ ups_push m 0 rest parts
        ∙ ap (λ (k : ℕ). ups_from m 0 rest ++ places_with m k 0 parts) node
        ∙ ap (λ (ps : List ℕ). ups_from m 0 rest ++ places_with m (length rest) 0 ps) (sym (take_all (length parts) parts (omega arith)));
  }

  -- its parts are earlier
  pub last_below : (i : ℕ) → i < length parts → slice_index_or parts i 0 < length wires.ups
  last_below i lt =
      let same = ap (λ (xs : List (List ℕ)). slice_index_or xs (length rest) []) is ∙ get_last rest parts [] (length rest) refl in
      let at : IsPlace wires (length rest) i = record { node = omega (arith, many); place = omega (arith, lt, ap length same) } in
      let below = wired.earlier (length rest) i at in
      omega (arith, below, ap (λ (xs : List ℕ). slice_index_or xs i 0) same, many, wired.aligned)

  -- and it is no part
  no_part : ups_from (length rest) 0 rest ≡ []
  no_part = left_none (ups_from (length rest) 0 rest) (places_with (length rest) (length rest) 0 (take (length parts) parts)) (sym (last_put.are (length rest)) ∙ none (ups_at wires (length rest)) refl)
    where
      none : (us : List Up) → ups_at wires (length rest) ≡ us → ups_at wires (length rest) ≡ []
      none [] e = e
      none (u ∷ us) e =
          let stands : length rest < length wires.parts = omega (arith, many) in
          let some : 0 < length (ups_at wires (length rest)) = omega (arith, ap length e) in
          let at = wired.is_place (length rest) 0 stands some in
          let part = wired.is_part (length rest) 0 stands some in
          let below = wired.earlier _ _ at in
          absurd (omega (arith, part, below, at.node, many))

  pub wired_less : (ups : List (List Up)) → WiresUps (λ m. ups_from m 0 rest) (length wires.ups) ups parts (length rest) 0 → IsWired (record { parts = rest; ups = take (length ups - 1) ups })
  wired_less ups put =
      let less : Wires = record { parts = rest; ups = take (length ups - 1) ups } in
      let len : length ups ≡ length rest + 1 = omega (arith, put.len_is, wired.aligned, many) in
      wired_of less (omega (arith, length-take (length ups - 1) ups, len)) (omega (arith, wired.few, many))
      (λ n i at. let same = ap (λ (xs : List (List ℕ)). slice_index_or xs n []) is ∙ get_push rest parts [] n at.node in
      let old : IsPlace wires n i = record { node = omega (arith, at.node, many); place = omega (arith, at.place, ap length same) } in
      let below = wired.earlier n i old in
      omega (arith, below, ap (λ (xs : List ℕ). slice_index_or xs i 0) same))
      (λ m. elim (before_or_past m (length rest)) [
        | inl before ↦ get_take ups (length ups - 1) m [] (omega (arith, before, len)) ∙ whole m
        | inr (inl here) ↦ past_end (take (length ups - 1) ups) [] m (omega (arith, length-take (length ups - 1) ups, here, len)) ∙ sym (ap (λ (k : ℕ). ups_from k 0 rest) here ∙ no_part)
        | inr (inr past) ↦ past_end (take (length ups - 1) ups) [] m (omega (arith, length-take (length ups - 1) ups, past, len)) ∙ sym (past_end ups [] m (omega (arith, past, len))) ∙ whole m
      ])
    where
      before_or_past : (m k : ℕ) → (m < k) ⊎ ((m ≡ k) ⊎ (k < m))
      before_or_past m k = search arith

      none : (ps : List ℕ) (m : ℕ) → places_with m (length rest) 0 (take 0 ps) ≡ []
      none [] m = refl
      none (p ∷ ps) m = refl

      whole : (m : ℕ) → slice_index_or ups m [] ≡ ups_from m 0 rest
      whole m = put.are m ∙ ap (λ (us : List Up). ups_from m 0 rest ++ us) (none parts m) ∙ append-nil (ups_from m 0 rest)

pub take_take : {A : Type 0} (xs : List A) (m n : ℕ) → m ≤ n → take m (take n xs) ≡ take m xs
take_take [] zero zero h = refl
take_take [] zero (suc n) h = refl
take_take [] (suc m) zero h = refl
take_take [] (suc m) (suc n) h = refl
take_take (x ∷ xs) zero zero h = refl
take_take (x ∷ xs) zero (suc n) h = refl
take_take (x ∷ xs) (suc m) zero h = absurd (omega arith)
take_take (x ∷ xs) (suc m) (suc n) h = ap (λ ys. x ∷ ys) (take_take xs m n (omega arith))

-- as many nodes go as are too many
pub cut_at : (parts : List (List ℕ)) (count gone : ℕ) → gone ≡ length parts - count → take (length parts - gone) parts ≡ take count parts
cut_at parts count gone all = elim (more_or_less count (length parts)) [
  | inl less ↦ let same : length parts - gone ≡ count = omega (arith, all, less) in ap (λ (k : ℕ). take k parts) same
  | inr more ↦ take_all (length parts - gone) parts (omega (arith, all, more)) ∙ sym (take_all count parts more)
]
  where
    more_or_less : (m n : ℕ) → (m < n) ⊎ (n ≤ m)
    more_or_less m n = search arith

pub cut_next : (parts cut : List (List ℕ)) (k : ℕ) → cut ≡ take k parts → k ≤ length parts → take (length cut - 1) cut ≡ take (k - 1) parts
cut_next parts cut k is h =
    let count : length cut - 1 ≡ k - 1 = omega (arith, ap length is, length-take k parts, h) in
    ap (λ (n : ℕ). take n cut) count ∙ ap (take (k - 1)) is ∙ take_take parts (k - 1) k (omega arith)
