-- Marks, one for each number below a length.
use Rattle.std.specs.Prelude.{◌≡◌, ℕ, ◌⊎◌, Bool, true, List, length, slice_get, Some, Contains}
use Rattle.formula_draft.specs.declared.draft_node.DraftNode.{DraftNode}
use Rattle.formula_draft.specs.Reach.{ReachesNode}

-- the number is marked
abbrev pub IsMarked : List Bool → ℕ → Type 0
IsMarked marks n = slice_get marks n ≡ Some true

-- exactly the numbers with the property are marked, of so many
pub record AreMarks (count : ℕ) (P : ℕ → Type 0) (marks : List Bool) : Type 0 where
  pub len : length marks ≡ count
  pub only : (n : ℕ) → IsMarked marks n → P n
  pub each : (n : ℕ) → P n → IsMarked marks n

-- these numbers were marked besides
pub record Marks (places : List ℕ) (old new : List Bool) : Type 0 where
  pub len : length new ≡ length old
  pub stay : (n : ℕ) → IsMarked old n → IsMarked new n
  pub each : (n : ℕ) → Contains places n → IsMarked new n
  pub only : (n : ℕ) → IsMarked new n → IsMarked old n ⊎ Contains places n

-- a reached node names the number
pub record IsNamed (names : DraftNode → List ℕ) (nodes : List DraftNode) (start number : ℕ) : Type 0 where
  pub place : ℕ
  pub node : DraftNode
  pub reached : ReachesNode nodes start place
  pub stands : slice_get nodes place ≡ Some node
  pub named : Contains (names node) number
