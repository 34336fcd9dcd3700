-- Chains that hold, for each leader, what its class's terms end. An item is a number, and its ends are told as pairs
-- of the item and a term.
use Rattle.std.specs.Prelude.{Contains, List, [], length, min, ℕ, ◌++◌, ◌<◌, ◌∷◌, ◌≡◌, ◌⊎◌}
use Rattle.graph_meaning.specs.declared.union.Union.{Union}
use Rattle.graph_meaning.specs.declared.done.Done.{Done}
use Rattle.graph_meaning.specs.Unions.{Generated, IsLeast, Leads}
use Rattle.graph_meaning.specs.Unions.{WasSame}
use Rattle.search_watch.specs.Chains.{Chained, HasChain, before_link, chain_at, chained, slot_at, list_at}
use Rattle.search_watch.specs.declared.link.Link.TheVariants.{Grown, Led}

-- each item that a term ends is in the chain of the least term of the term's class
pub record Covers (same : ℕ → ℕ → Type 0) (ends : List (ℕ × ℕ)) (chains : Chained) : Type 0 where
  pub each : (leader term item : ℕ) → IsLeast same leader → same leader term → Contains ends (item, term) →
      Contains (chain_at chains leader) item

-- where the chains hold what the classes' terms end, the joined chains do after the union
pub record JoinKeepsCovering : Type 0 where
  pub joins : (standing : List Done) (terms : ℕ) (unions : List Union) (union : Union) (ends : List (ℕ × ℕ))
      (chains : Chained) (moved kept : ℕ)
      → Covers (Generated (WasSame standing terms) unions) ends chains
      → Leads (Generated (WasSame standing terms) unions) union → (union.left < terms) × (union.right < terms)
      → ((moved ≡ union.left) × (kept ≡ union.right)) ⊎ ((moved ≡ union.right) × (kept ≡ union.left))
      → HasChain chains moved → HasChain chains kept
      → Covers (Generated (WasSame standing terms) (unions ++ union ∷ [])) ends (chained chains moved kept)

-- two notes undo what joined two chains: which list led the lesser leader, and how long the list was that grew
pub record JoinIsUndone : Type 0 where
  pub undone : (chains : Chained) (moved kept : ℕ) → HasChain chains kept
      → before_link
      (before_link (chained chains moved kept) (Led (min moved kept) (slot_at chains (min moved kept))))
      (Grown (slot_at chains kept) (length (chain_at chains kept)))
      ≡ chains

-- each item of each list is less than this
abbrev pub ItemsBelow : ℕ → Chained → Type 0
ItemsBelow count chains = (slot item : ℕ) → Contains (list_at chains slot) item → item < count

-- joined chains have no other items
pub record JoinKeepsItems : Type 0 where
  pub below : (chains : Chained) (moved kept count : ℕ) → HasChain chains kept → ItemsBelow count chains
      → ItemsBelow count (chained chains moved kept)
