-- When a graph clashes.
use Rattle.std.specs.Prelude.{◌≡◌, ◌<◌, ℕ, List, ◌∷◌, Option, Some, None, slice_get, Contains}
use Rattle.graph_meaning.specs.declared.done.Done.{Done}
use Rattle.graph_meaning.specs.Same.{Same}
use Rattle.graph_meaning.specs.Standing.{differs_of}
use Rattle.graph_congruence.specs.declared.clash.Clash.{Clash}

-- the pairs that are kept apart: true and false, and then the ends of each disequation
abbrev pub apart_of : List Done → List (ℕ × ℕ)
apart_of standing = (0, 1) ∷ differs_of standing

-- the terms of the first k pairs are not the same
abbrev pub NoneSame : List Done → List (ℕ × ℕ) → ℕ → Type 0
NoneSame standing pairs k = (i s t : ℕ) → i < k → slice_get pairs i ≡ Some (s, t) → Same standing s t → ⊥

-- the first of the pairs that are kept apart whose terms are the same, or none where there is no such pair
abbrev pub IsClash : List Done → Option Clash → Type 0
IsClash standing (Some clash) = (k : ℕ) × (slice_get (apart_of standing) k ≡ Some (clash.left, clash.right)) ×
    Same standing clash.left clash.right × NoneSame standing (apart_of standing) k
IsClash standing None = (s t : ℕ) → Contains (apart_of standing) (s, t) → Same standing s t → ⊥
