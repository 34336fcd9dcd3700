-- What follows from the definitions of trees and of lists of entries.
use Rattle.std.specs.Prelude.{◌≡◌, ℕ, ◌<◌, ◌≤◌, ◌↔◌, ◌⊎◌, List, ◌∷◌, [], ◌++◌, length, slice_get, Some, Option}
use Rattle.match_trees.specs.declared.entry.Entry.{Entry}
use Rattle.match_trees.specs.Trees.{Trees, IsNext, Path, Way, AreTrees, IsOnWay, trees_front}
use Rattle.match_trees.specs.Growth.{Extends}
use Rattle.match_trees.specs.EntryList.{EntryList, ExtendsList, with_entry}

-- a path has at least one label, ends at a node, and goes on to each next one; one with no next has one label
pub record PathLaws (L : Type 0) : Type 0 where
  pub some : (trees : Trees L) (node end : ℕ) (code : List L) → Path trees node end code → 0 < length code
  pub within : (trees : Trees L) (node end : ℕ) (code : List L) → Path trees node end code →
      end < length trees.labels
  pub on : (trees : Trees L) (node end next : ℕ) (code : List L) (label : L) → Path trees node end code →
      IsNext trees end next → slice_get trees.labels next ≡ Some label → Path trees node next (code ++ label ∷ [])
  pub parts : (trees : Trees L) (node end : ℕ) (label : L) (rest : List L) → Path trees node end (label ∷ rest) →
      (slice_get trees.labels node ≡ Some label) × ((rest ≡ []) ⊎ ((next : ℕ) × IsNext trees node next ×
      Path trees next end rest))

-- a node has one way, and a way one node; a front of a way is the way to a node, which stands on it
pub record WayLaws (L : Type 0) : Type 0 where
  pub one_way : (trees : Trees L) (end : ℕ) (code code' : List L) → AreTrees trees → Way trees end code →
      Way trees end code' → code ≡ code'
  pub one_node : (trees : Trees L) (code : List L) (n m : ℕ) → AreTrees trees → Way trees n code →
      Way trees m code → n ≡ m
  pub front : (trees : Trees L) (front rest : List L) (end : ℕ) → AreTrees trees → 0 < length front →
      Way trees end (front ++ rest) → (node : ℕ) × Way trees node front
  pub on_way : (trees : Trees L) (node end : ℕ) (code : List L) → AreTrees trees → Way trees end code →
      IsOnWay trees node end → (front : List L) × (rest : List L) × Way trees node front × (code ≡ front ++ rest)

-- trees extend themselves; what stood stays where nodes come, and where later nodes are cut
pub record GrowthLaws (L : Type 0) : Type 0 where
  pub same : (trees : Trees L) → AreTrees trees → Extends trees trees
  pub on : (old mid new : Trees L) → Extends old mid → Extends mid new → Extends old new
  pub path : (old new : Trees L) (node end : ℕ) (code : List L) → Extends old new → Path old node end code →
      Path new node end code
  pub way : (old new : Trees L) (end : ℕ) (code : List L) → Extends old new → Way old end code → Way new end code
  pub cut : (n : ℕ) (trees : Trees L) (end : ℕ) (code : List L) → AreTrees trees → end < n → Way trees end code →
      Way (trees_front n trees) end code
  pub front : (m n : ℕ) (trees : Trees L) → m ≤ n → trees_front m (trees_front n trees) ≡ trees_front m trees

-- a list extends itself, and is extended by an entry more
pub record EntryLaws : Type 0 where
  pub same : (list : EntryList) → length list.ends ≡ length list.entries → ExtendsList list list
  pub more : (list : EntryList) (entry : Entry) (end : ℕ) → length list.ends ≡ length list.entries →
      ExtendsList list (with_entry list entry end)
  pub on : (old mid new : EntryList) → ExtendsList old mid → ExtendsList mid new → ExtendsList old new

-- two ways share exactly the nodes at which their common fronts end
abbrev pub ShareFronts : Type 0 → Type 0
ShareFronts L = (trees : Trees L) (n m : ℕ) (code code' : List L) → AreTrees trees → Way trees n code →
    Way trees m code' → (node : ℕ) → (IsOnWay trees node n × IsOnWay trees node m) ↔ ((front : List L) ×
    (rest : List L) × (rest' : List L) × Way trees node front × (code ≡ front ++ rest) × (code' ≡ front ++ rest'))
