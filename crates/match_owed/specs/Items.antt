-- The items of a batch.
use Rattle.std.specs.Prelude.{◌≡◌, ◌<◌, ◌⊎◌, ◌↔◌, ℕ, List, length, slice_get, Some, None, AllPairs, Contains}
use Rattle.graph_meaning.specs.declared.claim.Claim.{Claim}
use Rattle.match_trees.specs.EntryList.{entry_of}
use Rattle.match_forest.specs.Forest.{Forest, IsTreeOf}
use Rattle.match_machine.specs.declared.item.Item.{Item}
use Rattle.match_owed.specs.declared.event.Event.{Event}
use Rattle.match_owed.specs.OwedLog.{OwedLog, Owes}

-- the number is that of the claim's entry, which is of its trigger and start
abbrev pub IsEntry : Forest → ℕ → Claim → Type 0
IsEntry forest entry claim = slice_get forest.entries entry ≡ Some (entry_of claim.trigger claim.start)

-- the item asks for the claim: at the claim's root, with its entry
abbrev pub Asks : Forest → Item → Claim → Type 0
Asks forest item claim = (item.root ≡ claim.root) × ((entry : ℕ) × Contains item.wanted entry ×
    IsEntry forest entry claim)

-- the first item is of an earlier tree, or of the same and an earlier root
abbrev pub IsItemBefore : Item → Item → Type 0
IsItemBefore a b = (a.tree < b.tree) ⊎ ((a.tree ≡ b.tree) × (a.root < b.root))

-- exactly the claims that are owed, joined by tree and root
pub record AreItems (forest : Forest) (log : List Event) (items : List Item) : Type 0 where
  pub in_order : AllPairs IsItemBefore items
  pub some : (item : Item) → Contains items item → (entry : ℕ) × Contains item.wanted entry
  pub rising : (item : Item) → Contains items item → AllPairs (λ a b. a < b) item.wanted
  pub one_tree : (item : Item) → Contains items item → (entry : ℕ) → Contains item.wanted entry →
      IsTreeOf forest entry item.tree
  pub sound : (item : Item) → Contains items item → (entry : ℕ) → Contains item.wanted entry → (claim : Claim) ×
      Owes log claim × (item.root ≡ claim.root) × IsEntry forest entry claim
  pub complete : (claim : Claim) → Owes log claim → (item : Item) × Contains items item × Asks forest item claim

-- the forest has an entry for each claim that is owed
abbrev pub HasEntries : Forest → List Event → Type 0
HasEntries forest log = (claim : Claim) → Owes log claim → (entry : ℕ) × IsEntry forest entry claim

-- the claims of each item, in the order of the items
pub record AreAsked (forest : Forest) (items : List Item) (lists : List (List Claim)) : Type 0 where
  pub each : length lists ≡ length items
  pub exact : (n : ℕ) (item : Item) (claims : List Claim) → slice_get items n ≡ Some item →
      slice_get lists n ≡ Some claims → (claim : Claim) → Contains claims claim ↔ Asks forest item claim

-- the batch of these items was taken at the end of the log
pub record TakesBatch (forest : Forest) (old new : OwedLog) (items : List Item) : Type 0 where
  pub lists : List (List Claim)
  pub asked : AreAsked forest items lists
  pub is : new ≡ record old { begun = None; batch = Some (length old.log); items = lists }
