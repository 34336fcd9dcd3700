-- Which literals and differences are looked at, union by union.
use Rattle.std.specs.Prelude.{◌≡◌, ℕ, ◌⊎◌, Bool, true, false, List, take, Some, slice_get, Contains}
use Rattle.graph_meaning.specs.declared.union.Union.{Union}
use Rattle.graph_meaning.specs.Unions.{Generated}

-- the difference stands, in this or the other order
abbrev pub IsDiffer : List (ℕ × ℕ) → ℕ → ℕ → Type 0
IsDiffer differs a b = Contains differs (a, b) ⊎ Contains differs (b, a)

-- one of the two terms is in the class
abbrev pub HasEnd : (ℕ → ℕ → Type 0) → ℕ → ℕ → ℕ → Type 0
HasEnd same moved s t = same moved s ⊎ same moved t

-- the two terms are of the other class and of that of the far end of a difference whose near end is in the class
abbrev pub IsFar : (ℕ → ℕ → Type 0) → ℕ → ℕ → List (ℕ × ℕ) → ℕ → ℕ → Type 0
IsFar same moved kept differs s t =
    (a : ℕ) × (b : ℕ) × IsDiffer differs a b × same moved a × ((same kept s × same b t) ⊎ (same kept t × same b s))

-- the leader whose class is walked
abbrev pub moved_of : Bool → Union → ℕ
moved_of true union = union.left
moved_of false union = union.right

-- the other leader
abbrev pub kept_of : Bool → Union → ℕ
kept_of true union = union.right
kept_of false union = union.left

-- at one of the unions, with the classes of its moment, the fact holds of the leader whose class is walked and of the
-- other one
pub record IsMet (old : ℕ → ℕ → Type 0) (unions : List Union) (side : ℕ → Bool)
    (fact : (ℕ → ℕ → Type 0) → ℕ → ℕ → Type 0) : Type 0 where
  pub k : ℕ
  pub union : Union
  pub at : slice_get unions k ≡ Some union
  pub holds : fact (Generated old (take k unions)) (moved_of (side k) union) (kept_of (side k) union)

-- a literal with these ends is looked at: it has an end in a walked class, or is between the other class and a far
-- end
abbrev pub IsLookedAt : (ℕ → ℕ → Type 0) → List Union → (ℕ → Bool) → List (ℕ × ℕ) → ℕ → ℕ → Type 0
IsLookedAt old unions side differs s t =
    IsMet old unions side (λ same moved kept. HasEnd same moved s t ⊎ IsFar same moved kept differs s t)

-- a literal with these ends has an end in a walked class
abbrev pub HasMovedEnd : (ℕ → ℕ → Type 0) → List Union → (ℕ → Bool) → ℕ → ℕ → Type 0
HasMovedEnd old unions side s t = IsMet old unions side (λ same moved kept. HasEnd same moved s t)

-- a difference has one end in a walked class and the other in the other class
abbrev pub ClashIsMet : (ℕ → ℕ → Type 0) → List Union → (ℕ → Bool) → List (ℕ × ℕ) → Type 0
ClashIsMet old unions side differs =
    IsMet old unions side
    (λ same moved kept. (a : ℕ) × (b : ℕ) × IsDiffer differs a b × same moved a × same kept b)
