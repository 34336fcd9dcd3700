-- Chains of differences that tell whether two terms are kept apart.
use Rattle.graph_meaning.specs.declared.done.Done.{Done}
use Rattle.graph_meaning.specs.Same.{Same, IsLeader}
use Rattle.search_watch.specs.Chains.{Chained, HasChain, chain_at}
use Rattle.std.specs.Prelude.{ℕ, ◌⊎◌, ◌<◌, List, length, slice_index, slice_index_or, Contains}

-- the two ends are of the classes of the two terms, in either order
abbrev pub AreJoined : (ℕ → ℕ → Type 0) → ℕ × ℕ → ℕ → ℕ → Type 0
AreJoined same pair left right = (same pair.0 left × same pair.1 right) ⊎ (same pair.0 right × same pair.1 left)

-- the differences are between terms
abbrev pub AreDiffers : ℕ → List (ℕ × ℕ) → Type 0
AreDiffers terms differs =
    (d : ℕ) → d < length differs →
    ((slice_index_or differs d (0, 0)).0 < terms) × ((slice_index_or differs d (0, 0)).1 < terms)

-- the chain names differences, and each that has an end in the class of the term
pub record ChainHolds (same : ℕ → ℕ → Type 0) (differs : List (ℕ × ℕ)) (chain : List ℕ) (term : ℕ) : Type 0 where
  pub names : (i : ℕ) → i < length chain → slice_index chain i < length differs
  pub holds : (d : ℕ) → d < length differs →
      same (slice_index_or differs d (0, 0)).0 term ⊎ same (slice_index_or differs d (0, 0)).1 term → Contains chain d

-- the chain of each leader holds the differences with an end in its class
abbrev pub AreDifferChains : List Done → List (ℕ × ℕ) → Chained → Type 0
AreDifferChains standing differs chains =
    (term leader : ℕ) → IsLeader standing term leader →
    HasChain chains leader × ChainHolds (Same standing) differs (chain_at chains leader) term
