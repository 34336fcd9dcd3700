-- Inverted paths of triggers in trees.
use Rattle.std.specs.Prelude.{◌≡◌, ◌↔◌, ℕ, List, ◌∷◌, length, slice_get, Some, Contains}
use Rattle.graph_meaning.specs.declared.done.Done.{Done}
use Rattle.graph_trigger.specs.declared.trigger.Trigger.{Trigger}
use Rattle.graph_meaning.specs.Justified.{Justified, Through}
use Rattle.graph_meaning.specs.declared.claim.Claim.{Claim}
use Rattle.match_trees.specs.declared.entry.Entry.{Entry}
use Rattle.match_paths.specs.declared.link.Link.{Link}
use Rattle.match_trees.specs.Trees.{Trees, Way}
use Rattle.match_trees.specs.EntryList.{EntryList, entry_of}
use Rattle.match_paths.specs.Inverted.{IsInverted}

-- trees, entries with the nodes at which their ways end, and the number of triggers
pub record Paths : Type 0 where
  pub trees : Trees Link
  pub list : EntryList
  pub triggers : ℕ

-- the paths of these triggers: the ways to the ends of entries are exactly their inverted paths
pub record Serves (paths : Paths) (triggers : List Trigger) : Type 0 where
  pub many : paths.triggers ≡ length triggers
  pub led : (number end : ℕ) → slice_get paths.list.ends number ≡ Some end → (code : List Link) ×
      Way paths.trees end code
  pub sound : (number end : ℕ) (entry : Entry) (begin : Link) (links : List Link) →
      slice_get paths.list.entries number ≡ Some entry → slice_get paths.list.ends number ≡ Some end →
      Way paths.trees end (begin ∷ links) → (trigger : Trigger) × (slice_get triggers entry.trigger ≡ Some trigger) ×
      IsInverted trigger entry.start begin links
  pub all : (number start : ℕ) (trigger : Trigger) (begin : Link) (links : List Link) →
      slice_get triggers number ≡ Some trigger → IsInverted trigger start begin links → (entry : ℕ) × (end : ℕ) ×
      (slice_get paths.list.entries entry ≡ Some (entry_of number start)) ×
      (slice_get paths.list.ends entry ≡ Some end) × Way paths.trees end (begin ∷ links)

-- one of the triggers may have a new match at the claim's root through the class
abbrev pub IsThrough : List Done → List Trigger → ℕ → Claim → Type 0
IsThrough standing triggers class claim = (trigger : Trigger) × (slice_get triggers claim.trigger ≡ Some trigger) ×
    Through standing trigger claim.start claim.root class

-- exactly the claims of the triggers through the class
abbrev pub AreThrough : List Done → List Trigger → ℕ → List Claim → Type 0
AreThrough standing triggers class claims = (claim : Claim) → Contains claims claim ↔
    IsThrough standing triggers class claim

-- each of the claims is justified since the earlier list
abbrev pub AreJustified : List Done → List Done → List Claim → Type 0
AreJustified before now claims = (claim : Claim) → Contains claims claim → Justified before now claim
