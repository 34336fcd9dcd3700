-- The inverted paths of a trigger, from its places.
use Rattle.std.specs.Prelude.{◌≡◌, ◌≢◌, ◌⊎◌, ◌≤◌, ℕ, List, [], ◌∷◌, length, slice_get, Some, Contains}
use Rattle.graph_trigger.specs.declared.trigger.Trigger.{Trigger}
use Rattle.graph_trigger.specs.declared.pattern_row.PatternRow.TheVariants.{Var, App}
use Rattle.match_trees.specs.declared.entry.Entry.{Entry}
use Rattle.match_paths.specs.declared.link.Link.{Link}
use Rattle.match_paths.specs.declared.link.Link.TheVariants.{Member, Argument, Above}
use Rattle.match_paths.specs.declared.occurrence.Occurrence.{Occurrence}
use Rattle.match_trees.specs.Trees.{Trees, Way}
use Rattle.match_trees.specs.Growth.{Extends}
use Rattle.match_trees.specs.EntryList.{EntryList, ExtendsList, entry_of}

-- a path from this place begins so
pub data BeginsFrom (trigger : Trigger) (all : List Occurrence) (occurrence : Occurrence) : Link → Type 0 where
  application : {symbol : ℕ} {parts : List ℕ} → slice_get trigger.rows occurrence.row ≡ Some (App symbol parts) →
      BeginsFrom trigger all occurrence (Member symbol)
  variable : {index symbol place : ℕ} {other : Occurrence} {rest : List Link} →
      slice_get trigger.rows occurrence.row ≡ Some (Var index) → Contains all other → other.row ≡ occurrence.row →
      (other.start ≢ occurrence.start) ⊎ (other.links ≢ occurrence.links) → other.links ≡ Above symbol place ∷ rest →
      BeginsFrom trigger all occurrence (Argument symbol place)

-- a path from one of the places, up its links
pub record IsWanted (trigger : Trigger) (all : List Occurrence) (start : ℕ) (begin : Link)
    (links : List Link) : Type 0 where
  pub occurrence : Occurrence
  pub is : Contains all occurrence
  pub start_is : occurrence.start ≡ start
  pub links_are : occurrence.links ≡ links
  pub some : links ≢ []
  pub begins : BeginsFrom trigger all occurrence begin

-- entries of the trigger with the number came last, for exactly these paths
pub record AddsWays (number : ℕ) (Is : ℕ → Link → List Link → Type 0) (trees trees' : Trees Link)
    (list list' : EntryList) : Type 0 where
  pub trees_extend : Extends trees trees'
  pub list_extends : ExtendsList list list'
  pub sound : (n end : ℕ) (entry : Entry) → length list.entries ≤ n → slice_get list'.entries n ≡ Some entry →
      slice_get list'.ends n ≡ Some end → (entry.trigger ≡ number) ×
      ((begin : Link) × (links : List Link) × Way trees' end (begin ∷ links) × Is entry.start begin links)
  pub complete : (start : ℕ) (begin : Link) (links : List Link) → Is start begin links → (n : ℕ) × (end : ℕ) ×
      (slice_get list'.entries n ≡ Some (entry_of number start)) × (slice_get list'.ends n ≡ Some end) ×
      Way trees' end (begin ∷ links)

-- this way alone
abbrev pub IsThisWay : ℕ → Link → List Link → ℕ → Link → List Link → Type 0
IsThisWay start begin links other_start other_begin other_links = (other_start ≡ start) × (other_begin ≡ begin) ×
    (other_links ≡ links)

-- a path from one place of a variable begins so for another place
abbrev pub BeginsForPair : Occurrence → Occurrence → Link → Type 0
BeginsForPair occurrence other begin = (other.row ≡ occurrence.row) ×
    ((other.start ≢ occurrence.start) ⊎ (other.links ≢ occurrence.links)) ×
    ((symbol : ℕ) × (place : ℕ) × (rest : List Link) × (other.links ≡ Above symbol place ∷ rest) ×
    (begin ≡ Argument symbol place))

-- the way from one place of a variable for another
abbrev pub IsWayOfPair : Occurrence → Occurrence → ℕ → Link → List Link → Type 0
IsWayOfPair occurrence other start begin links = (start ≡ occurrence.start) × (links ≡ occurrence.links) ×
    BeginsForPair occurrence other begin

-- a way from one place of a variable for any other
abbrev pub IsWayOfVariable : List Occurrence → Occurrence → ℕ → Link → List Link → Type 0
IsWayOfVariable all occurrence start begin links = (other : Occurrence) × Contains all other ×
    IsWayOfPair occurrence other start begin links

-- a way from one place
abbrev pub IsWayOf : Trigger → List Occurrence → Occurrence → ℕ → Link → List Link → Type 0
IsWayOf trigger all occurrence start begin links = (start ≡ occurrence.start) × (links ≡ occurrence.links) ×
    (occurrence.links ≢ []) × BeginsFrom trigger all occurrence begin
