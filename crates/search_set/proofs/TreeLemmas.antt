-- Trees of marks.
use Rattle.std.proofs.Common.{◌≡◌, ℕ, zero, suc, ◌+◌, ◌*◌, ◌^◌, ◌/◌, ◌-◌, ◌<◌, ◌≤◌, ◌⊎◌, inl, inr, Bool, true, false, ◌||◌, if◌then◌else◌, List, [], ◌∷◌, ◌++◌, length, take, drop, replicate, length-append, append_assoc, length-drop, slice_index_or, slice_set, refl, sym, ap, subst, ◌∙◌, arith}
use Rattle.std.proofs.lemmas.Grind.{common_steps}
use Rattle.std.proofs.lemmas.Nat.{pow_pos}
use Rattle.std.proofs.lemmas.List.{drop-set-add, get_or-drop, get_or-replicate, get_or_past, length-take, take_all, take_more, replicate-append-replicate}
use Rattle.std.proofs.Math.ListN.{length-set, length-replicate}
use Rattle.std.proofs.Math.Nat.{le-mul_of_pos_right, pow-suc, mul_comm}
use Rattle.search_set.specs.Tree.{IsTree, IsJoint, IsLeastFrom}

-- so far up every inner mark but that at one place is right
pub record IsTreeBut (marks : List Bool) (height place : ℕ) : Type 0 where
  pub len : length marks ≡ 2 * 2 ^ height
  pub joint : (i : ℕ) → 1 ≤ i → i < 2 ^ height → (i ≡ place → ⊥) → IsJoint marks i

-- a number is below another or not
pub split_at : (i j : ℕ) → (i < j) ⊎ (j ≤ i)
split_at i j = search arith

or_false : (a b : Bool) → false ≡ (a || b) → (a ≡ false) × (b ≡ false)
or_false true b e = cc
or_false false true e = cc
or_false false false e = (refl, refl)

or_true : (b : Bool) → true ≡ (false || b) → b ≡ true
or_true true e = refl
or_true false e = cc

-- the marks below a mark have half the width
pub record Halves (i whole half : ℕ) : Type 0 where
  pub left : (2 * i) * half ≡ i * whole
  pub middle : (2 * i + 1) * half ≡ i * whole + half
  pub right : (2 * i + 1 + 1) * half ≡ i * whole + whole
  pub after : (i + 1) * whole ≡ i * whole + whole
  pub left_after : (2 * i + 1) * half ≡ i * whole + half

halves_of : (i whole half : ℕ) → whole ≡ 2 * half → Halves i whole half
halves_of i whole half e = rw e (record {
  left = grind arith;
  middle = grind arith;
  right = grind arith;
  after = grind arith;
  left_after = grind arith;
})

power_step : (b : ℕ) → 2 ^ suc b ≡ 2 * 2 ^ b
power_step b = pow-suc 2 b ∙ mul_comm (2 ^ b) 2

pub halves : (b i : ℕ) → Halves i (2 ^ suc b) (2 ^ b)
halves b i = halves_of i (2 ^ suc b) (2 ^ b) (power_step b)

-- a place with room below it is an inner one
inner_by : (i whole half room : ℕ) → 1 ≤ half → whole ≡ 2 * half → (i + 1) * whole ≤ 2 * room → i < room
inner_by i whole half room pos e fits =
    let more : i + 1 ≤ (i + 1) * half = le-mul_of_pos_right (i + 1) pos in
    let same : (i + 1) * whole ≡ 2 * ((i + 1) * half) = rw e (grind arith) in
    omega arith

pub inner : (b i room : ℕ) → (i + 1) * 2 ^ suc b ≤ 2 * room → i < room
inner b i room fits = inner_by i (2 ^ suc b) (2 ^ b) room (pow_pos b) (power_step b) fits

module _ (marks : List Bool) (height : ℕ) (tree : IsTree marks height) where
  -- nothing is marked at the bottom below a mark that is not set
  pub none_below : (b i : ℕ) → 1 ≤ i → (i + 1) * 2 ^ b ≤ 2 * 2 ^ height → slice_index_or marks i false ≡ false
      → (j : ℕ) → i * 2 ^ b ≤ j → j < (i + 1) * 2 ^ b → slice_index_or marks j false ≡ false
  none_below zero i one fits off j low high = let e : j ≡ i = omega arith in ap (λ k. slice_index_or marks k false) e ∙ off
  none_below (suc b) i one fits off j low high =
      let both = or_false _ _ (sym off ∙ tree.joint i one (inner b i (2 ^ height) fits)) in
      let h = halves b i in
      elim (split_at j ((2 * i + 1) * 2 ^ b)) [
        | inl below ↦ none_below b (2 * i) (omega arith) (omega arith) both.0 j (omega arith) below
        | inr above ↦ none_below b (2 * i + 1) (omega arith) (omega arith) both.1 j above (omega arith)
      ]

-- a mark that is set, so many levels above the bottom, with none at the bottom before those below it
pub record IsDown (marks : List Bool) (height b at : ℕ) : Type 0 where
  pub one : 1 ≤ at
  pub is_set : slice_index_or marks at false ≡ true
  pub low : 2 ^ height ≤ at * 2 ^ b
  pub high : (at + 1) * 2 ^ b ≤ 2 * 2 ^ height
  pub least : (j : ℕ) → 2 ^ height ≤ j → j < at * 2 ^ b → slice_index_or marks j false ≡ false

pub down_first : (marks : List Bool) (height : ℕ) → slice_index_or marks 1 false ≡ true → IsDown marks height height 1
down_first marks height top = record {
  one = omega arith;
  is_set = top;
  low = omega arith;
  high = omega arith;
  least = λ j from below. absurd (omega arith);
}

pub down_more : (marks : List Bool) (height b at : ℕ) → IsTree marks height → IsDown marks height (suc b) at → IsDown marks height b (if slice_index_or marks (2 * at) false then 2 * at else 2 * at + 1)
down_more marks height b at tree down =
    let h = halves b at in
    elim (slice_index_or marks (2 * at) false) as (λ v. slice_index_or marks (2 * at) false ≡ v → IsDown marks height b (if v then 2 * at else 2 * at + 1)) [
      | true ↦ λ e. let k : IsDown marks height b (2 * at) = record {
        one = omega arith;
        is_set = e;
        low = omega arith;
        high = omega arith;
        least = λ j from below. down.least j from (omega arith);
      } in k
      | false ↦ λ e. let k : IsDown marks height b (2 * at + 1) = record {
        one = omega arith;
        is_set = or_true _ (sym down.is_set ∙ tree.joint at down.one (inner b at (2 ^ height) down.high) ∙ ap (λ v. v || slice_index_or marks (2 * at + 1) false) e);
        low = omega arith;
        high = omega arith;
        least = λ j from below. elim (split_at j (at * 2 ^ suc b)) [
          | inl before ↦ down.least j from before
          | inr after ↦ none_below marks height tree b (2 * at) (omega arith) (omega arith) e j (omega arith) below
        ];
      } in k
    ] refl

pub down_last : (marks : List Bool) (height at : ℕ) → IsDown marks height 0 at → IsLeastFrom marks (2 ^ height) (at - 2 ^ height)
down_last marks height at down = record {
  is_set = let e : 2 ^ height + (at - 2 ^ height) ≡ at = omega arith in ap (λ k. slice_index_or marks k false) e ∙ down.is_set;
  none = λ i below. down.least (2 ^ height + i) (omega arith) (omega arith);
}

-- ---- a write at the bottom, and the walk up

pub get-set_same : (xs : List Bool) (i : ℕ) (v : Bool) → i < length xs → slice_index_or (slice_set xs i v) i false ≡ v
get-set_same xs i v lt = grind (arith, common_steps)

pub get-set_other : (xs : List Bool) (i j : ℕ) (v : Bool) → (j ≡ i → ⊥) → slice_index_or (slice_set xs i v) j false ≡ slice_index_or xs j false
get-set_other xs i j v ne = grind (arith, common_steps)

-- a write elsewhere keeps a joint
joint-set : (xs : List Bool) (i k : ℕ) (v : Bool) → (k ≡ i → ⊥) → (2 * k ≡ i → ⊥) → (2 * k + 1 ≡ i → ⊥) → IsJoint xs k → IsJoint (slice_set xs i v) k
joint-set xs i k v ne left right joint = rw (get-set_other xs i k v ne, get-set_other xs i (2 * k) v left, get-set_other xs i (2 * k + 1) v right) joint

pub raise_first : (marks : List Bool) (height n : ℕ) (on : Bool) → IsTree marks height → IsTreeBut (slice_set marks (2 ^ height + n) on) height ((2 ^ height + n) / 2)
raise_first marks height n on tree = record {
  len = length-set marks (2 ^ height + n) on ∙ tree.len;
  joint = λ i one inner ne. joint-set marks (2 ^ height + n) i on (omega arith) (omega arith) (omega arith) (tree.joint i one inner);
}

pub raise_more : (marks : List Bool) (height at : ℕ) (v : Bool) → 1 ≤ at → at < 2 * 2 ^ height → IsTreeBut marks height at → v ≡ (slice_index_or marks (2 * at) false || slice_index_or marks (2 * at + 1) false) → IsTreeBut (slice_set marks at v) height (at / 2)
raise_more marks height at v one within tree is = record {
  len = length-set marks at v ∙ tree.len;
  joint = λ i first inner ne. elim (same_or_not i at) [
    | inl same ↦ let P : ℕ → Type 0 = λ k. IsJoint (slice_set marks at v) k in subst P (sym same)
        (get-set_same marks at v (omega arith) ∙ is ∙ sym (join_of (get-set_other marks at (2 * at) v (omega arith)) (get-set_other marks at (2 * at + 1) v (omega arith))))
    | inr other ↦ joint-set marks at i v other (omega arith) (omega arith) (tree.joint i first inner other)
  ];
}
  where
    same_or_not : (i j : ℕ) → (i ≡ j) ⊎ (i ≡ j → ⊥)
    same_or_not i j = search arith

    join_of : {a b c d : Bool} → a ≡ b → c ≡ d → (a || c) ≡ (b || d)
    join_of p q = cc

pub raise_last : (marks : List Bool) (height : ℕ) → IsTreeBut marks height 0 → IsTree marks height
raise_last marks height tree = record { len = tree.len; joint = λ i one inner. tree.joint i one inner (omega arith) }

pub drop-set_below : (xs : List Bool) (n i : ℕ) (v : Bool) → i < n → drop n (slice_set xs i v) ≡ drop n xs
drop-set_below xs n i v lt = grind (arith, common_steps)

pub drop-set_above : (xs : List Bool) (n i : ℕ) (v : Bool) → n + i < length xs → drop n (slice_set xs (n + i) v) ≡ slice_set (drop n xs) i v
drop-set_above xs n i v lt = drop-set-add n xs i v

-- no mark is set, where the topmost isn't
pub none_at_all : (marks : List Bool) (height : ℕ) → IsTree marks height → slice_index_or marks 1 false ≡ false → (k : ℕ) → slice_index_or (drop (2 ^ height) marks) k false ≡ false
none_at_all marks height tree off k =
    elim (split_at k (2 ^ height)) [
      | inl below ↦ get_or-drop (2 ^ height) marks k false ∙ none_below marks height tree height 1 (omega arith) (omega arith) off (2 ^ height + k) (omega arith) (omega arith)
      | inr past ↦ get_or_past (drop (2 ^ height) marks) k false (omega (arith, length-drop (2 ^ height) marks, tree.len))
    ]

-- all marks are off at first
pub tree_none : (height : ℕ) → IsTree (replicate (2 * 2 ^ height) false) height
tree_none height = record {
  len = length-replicate (2 * 2 ^ height) false;
  joint = λ i one inner. off i ∙ sym (or_of (off (2 * i)) (off (2 * i + 1)));
}
  where
    off : (i : ℕ) → slice_index_or (replicate (2 * 2 ^ height) false) i false ≡ false
    off i = elim (split_at i (2 * 2 ^ height)) [
      | inl below ↦ get_or-replicate (2 * 2 ^ height) i false false below
      | inr past ↦ get_or_past (replicate (2 * 2 ^ height) false) i false (omega (arith, length-replicate (2 * 2 ^ height) false))
    ]

    or_of : {a b : Bool} → a ≡ false → b ≡ false → (a || b) ≡ false
    or_of p q = cc

-- ---- a set that takes over the members of another, number by number

pub set_what_is : (xs : List Bool) (i : ℕ) (v : Bool) → slice_index_or xs i false ≡ v → slice_set xs i v ≡ xs
set_what_is [] i v e = refl
set_what_is (x ∷ xs) zero v e = ap (λ y. y ∷ xs) (sym e)
set_what_is (x ∷ xs) (suc i) v e = ap (λ ys. x ∷ ys) (set_what_is xs i v e)

set_behind : (xs ys : List Bool) (v : Bool) → slice_set (xs ++ ys) (length xs) v ≡ xs ++ slice_set ys 0 v
set_behind [] ys v = refl
set_behind (x ∷ xs) ys v = ap (λ zs. x ∷ zs) (set_behind xs ys v)

get_behind : (xs ys : List Bool) (k : ℕ) → k ≡ length xs + 0 → slice_index_or (xs ++ ys) k false ≡ slice_index_or ys 0 false
get_behind [] ys zero e = refl
get_behind [] ys (suc k) e = absurd (omega (arith, e))
get_behind (x ∷ xs) ys zero e = absurd (omega (arith, e))
get_behind (x ∷ xs) ys (suc k) e = get_behind xs ys k (omega (arith, e))

-- the members below a number, and room for the others
abbrev pub over_below : List Bool → ℕ → ℕ → List Bool
over_below xs all k = take k xs ++ replicate (all - k) false

pub over_off : (xs : List Bool) (all k : ℕ) → k < length xs → length xs ≤ all → slice_index_or (over_below xs all k) k false ≡ false
over_off xs all k h fits =
    let front : length (take k xs) ≡ k = omega (arith, length-take k xs) in
    let at : k ≡ length (take k xs) + 0 = omega (arith, front) in
    get_behind (take k xs) (replicate (all - k) false) k at ∙ get_or-replicate (all - k) 0 false false (omega arith)

pub over_length : (xs : List Bool) (all k : ℕ) → k ≤ length xs → length xs ≤ all → length (over_below xs all k) ≡ all
over_length xs all k h fits = omega (arith, length-append (take k xs) (replicate (all - k) false), length-take k xs, length-replicate (all - k) false)

pub over_more : (xs : List Bool) (all k : ℕ) → k < length xs → length xs ≤ all → slice_set (over_below xs all k) k (slice_index_or xs k false) ≡ over_below xs all (k + 1)
over_more xs all k h fits =
    let v = slice_index_or xs k false in
    let front : length (take k xs) ≡ k = omega (arith, length-take k xs) in
    let rest : all - k ≡ 1 + (all - (k + 1)) = omega arith in
    ap (λ (i : ℕ). slice_set (over_below xs all k) i v) (sym front)
    ∙ set_behind (take k xs) (replicate (all - k) false) v
    ∙ ap (λ (n : ℕ). take k xs ++ slice_set (replicate n false) 0 v) rest
    ∙ ap (λ (ys : List Bool). take k xs ++ slice_set ys 0 v) (sym (replicate-append-replicate 1 (all - (k + 1)) false))
    ∙ sym (append_assoc (take k xs) (v ∷ []) (replicate (all - (k + 1)) false))
    ∙ ap (λ (ys : List Bool). ys ++ replicate (all - (k + 1)) false) (sym (take_more xs k false h))

pub over_first : (xs : List Bool) (all : ℕ) → over_below xs all 0 ≡ replicate all false
over_first [] all = ap (λ (n : ℕ). replicate n false) (same all)
  where
    same : (n : ℕ) → n - 0 ≡ n
    same n = omega arith
over_first (x ∷ xs) all = ap (λ (n : ℕ). replicate n false) (same all)
  where
    same : (n : ℕ) → n - 0 ≡ n
    same n = omega arith

pub over_last : (xs : List Bool) (all : ℕ) → over_below xs all (length xs) ≡ xs ++ replicate (all - length xs) false
over_last xs all = ap (λ (ys : List Bool). ys ++ replicate (all - length xs) false) (take_all (length xs) xs (omega arith))

same_default : (xs : List Bool) (i : ℕ) (d e : Bool) → i < length xs → slice_index_or xs i d ≡ slice_index_or xs i e
same_default [] i d e h = absurd (omega arith)
same_default (x ∷ xs) zero d e h = refl
same_default (x ∷ xs) (suc i) d e h = same_default xs i d e (omega arith)

-- a mark at the bottom tells whether its number is a member
pub mark_is : (set marks : List Bool) (room k : ℕ) (v : Bool) → drop room marks ≡ set → v ≡ slice_index_or marks (room + k) v → k < length set → v ≡ slice_index_or set k false
mark_is set marks room k v is at h = at ∙ sym (get_or-drop room marks k v) ∙ ap (λ (xs : List Bool). slice_index_or xs k v) is ∙ same_default set k v false h

-- as many numbers as the tree has places at the bottom
pub room_is : (set marks : List Bool) (height room : ℕ) → IsTree marks height → room ≡ 2 ^ height → drop room marks ≡ set → length set ≡ room
room_is set marks height room tree e is = omega (arith, ap length is, length-drop room marks, tree.len, e)
