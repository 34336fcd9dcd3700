-- Entries that are asked for, before they are joined into items.
use Rattle.std.specs.Prelude.{◌≡◌, ◌+◌, ◌<◌, ◌≤◌, ◌⊎◌, ◌↔◌, ℕ, List, [], ◌∷◌, ◌++◌, length, slice_get, Some, Contains}
use Rattle.graph_meaning.specs.declared.claim.Claim.{Claim}
use Rattle.match_forest.specs.Forest.{Forest, IsTreeOf}
use Rattle.match_machine.specs.declared.item.Item.{Item}
use Rattle.match_owed.specs.declared.asked.Asked.{Asked}
use Rattle.match_owed.specs.Items.{IsEntry, IsItemBefore}

-- the entry of the claim, in its tree and at its root
pub record IsAsked (forest : Forest) (claim : Claim) (asked : Asked) : Type 0 where
  pub entry : IsEntry forest asked.entry claim
  pub tree : IsTreeOf forest asked.entry asked.tree
  pub root : asked.root ≡ claim.root

-- at each place what is asked for the claim there
pub record AskFor (forest : Forest) (claims : List Claim) (asked : List Asked) : Type 0 where
  pub each : length asked ≡ length claims
  pub exact : (n : ℕ) (claim : Claim) (one : Asked) → slice_get claims n ≡ Some claim →
      slice_get asked n ≡ Some one → IsAsked forest claim one

-- what is asked for the claims, and nothing else
pub record AsksFor (forest : Forest) (claims : List Claim) (asked : List Asked) : Type 0 where
  pub sound : (one : Asked) → Contains asked one → (claim : Claim) × Contains claims claim × IsAsked forest claim one
  pub complete : (claim : Claim) → Contains claims claim → (one : Asked) × Contains asked one ×
      IsAsked forest claim one

-- the relation holds of each element and each later one
abbrev pub Ascend : {X : Type 0} → (X → X → Type 0) → List X → Type 0
Ascend {X} R xs = (i j : ℕ) (a b : X) → i < j → slice_get xs i ≡ Some a → slice_get xs j ≡ Some b → R a b

-- of an earlier tree, or of the same and an earlier root
abbrev pub IsEarlier : Asked → Asked → Type 0
IsEarlier a b = (a.tree < b.tree) ⊎ ((a.tree ≡ b.tree) × (a.root < b.root))

-- of one tree and one root
abbrev pub IsBeside : Asked → Asked → Type 0
IsBeside a b = (a.tree ≡ b.tree) × (a.root ≡ b.root)

-- by tree, then by root, then by entry, each once
abbrev pub IsBefore : Asked → Asked → Type 0
IsBefore a b = IsEarlier a b ⊎ (IsBeside a b × (a.entry < b.entry))

-- from the one place up to the other all are of one tree and one root, and the next is not
pub record IsRun (asked : List Asked) (at end : ℕ) (first : Asked) : Type 0 where
  pub begins : slice_get asked at ≡ Some first
  pub after : at < end
  pub within : end ≤ length asked
  pub beside : (n : ℕ) (one : Asked) → at ≤ n → n < end → slice_get asked n ≡ Some one → IsBeside first one
  pub next : (one : Asked) → slice_get asked end ≡ Some one → IsBeside first one → ⊥

-- the item wants the entry at a place of the list that is its tree's and root's
abbrev pub Wants : Item → Asked → Type 0
Wants item one = (item.tree ≡ one.tree) × (item.root ≡ one.root) × Contains item.wanted one.entry

-- exactly what is asked for, joined by tree and root
pub record Joins (asked : List Asked) (items : List Item) : Type 0 where
  pub in_order : Ascend IsItemBefore items
  pub some : (item : Item) → Contains items item → (entry : ℕ) × Contains item.wanted entry
  pub rising : (item : Item) → Contains items item → Ascend (λ a b. a < b) item.wanted
  pub sound : (item : Item) (entry : ℕ) → Contains items item → Contains item.wanted entry → (one : Asked) ×
      Contains asked one × (one.tree ≡ item.tree) × (one.root ≡ item.root) × (one.entry ≡ entry)
  pub complete : (one : Asked) → Contains asked one → (item : Item) × Contains items item × Wants item one

-- the entries from the one place up to the other
pub record AreEntries (asked : List Asked) (at end : ℕ) (entries : List ℕ) : Type 0 where
  pub many : length entries + at ≡ end
  pub each : (k entry : ℕ) → slice_get entries k ≡ Some entry → (one : Asked) ×
      (slice_get asked (at + k) ≡ Some one) × (one.entry ≡ entry)

-- exactly the claims of these entries at the root
abbrev pub AreClaims : Forest → ℕ → List ℕ → List Claim → Type 0
AreClaims forest root entries claims = (claim : Claim) → Contains claims claim ↔ ((root ≡ claim.root) ×
    ((entry : ℕ) × Contains entries entry × IsEntry forest entry claim))

-- the item of the entries from the one place up to the other came last, and the list of its claims
pub record PutsRun (forest : Forest) (asked : List Asked) (at end : ℕ) (items items' : List Item)
    (lists lists' : List (List Claim)) : Type 0 where
  pub first : Asked
  pub begins : slice_get asked at ≡ Some first
  pub item : Item
  pub tree : item.tree ≡ first.tree
  pub root : item.root ≡ first.root
  pub wanted : AreEntries asked at end item.wanted
  pub claims : List Claim
  pub are_claims : AreClaims forest item.root item.wanted claims
  pub items_are : items' ≡ items ++ item ∷ []
  pub lists_are : lists' ≡ lists ++ claims ∷ []
