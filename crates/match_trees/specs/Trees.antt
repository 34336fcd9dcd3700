-- Labels in trees.
use Rattle.std.specs.Prelude.{◌≡◌, ℕ, ◌<◌, List, [], ◌∷◌, ◌++◌, length, take, slice_get, Some, None, Option}

-- the node above each node, which a root has not, and the label of each node
pub record Trees (L : Type 0) : Type 0 where
  pub above : List (Option ℕ)
  pub labels : List L

module _ {L : Type 0} where
  -- the node begins a tree
  abbrev pub IsRoot : Trees L → ℕ → Type 0
  IsRoot trees node = slice_get trees.above node ≡ Some None

  -- the second node is next after the first
  abbrev pub IsNext : Trees L → ℕ → ℕ → Type 0
  IsNext trees node next = slice_get trees.above next ≡ Some (Some node)

-- down from the first node to the second stand these labels, with those of both
pub data Path {L : Type 0} (trees : Trees L) : ℕ → ℕ → List L → Type 0 where
  here : {node : ℕ} {label : L} → slice_get trees.labels node ≡ Some label → Path trees node node (label ∷ [])
  down : {node next end : ℕ} {label : L} {code : List L} → slice_get trees.labels node ≡ Some label →
      IsNext trees node next → Path trees next end code → Path trees node end (label ∷ code)

-- from its root down to the node stand these labels
pub record Way {L : Type 0} (trees : Trees L) (end : ℕ) (code : List L) : Type 0 where
  pub root : ℕ
  pub is_root : IsRoot trees root
  pub path : Path trees root end code

-- two roots, or two nodes next after one node, differ in their labels
abbrev pub AreJoined : {L : Type 0} → Trees L → Type 0
AreJoined {L} trees = (n m : ℕ) (above : Option ℕ) (label : L) → slice_get trees.above n ≡ Some above →
    slice_get trees.above m ≡ Some above → slice_get trees.labels n ≡ Some label →
    slice_get trees.labels m ≡ Some label → n ≡ m

-- trees: what is next after a node has a greater number, and what begins alike is shared
pub record AreTrees {L : Type 0} (trees : Trees L) : Type 0 where
  pub each_node : length trees.above ≡ length trees.labels
  pub later : (node next : ℕ) → IsNext trees node next → node < next
  pub joined : AreJoined trees

module _ {L : Type 0} where
  -- the first nodes
  abbrev pub trees_front : ℕ → Trees L → Trees L
  trees_front n trees = record { above = take n trees.above; labels = take n trees.labels }

  -- the trees after a node came next after this one, or as a root
  abbrev pub with_node : Trees L → Option ℕ → L → Trees L
  with_node trees above label = record { above = trees.above ++ above ∷ []; labels = trees.labels ++ label ∷ [] }

  -- the node stands on the way to the end
  abbrev pub IsOnWay : Trees L → ℕ → ℕ → Type 0
  IsOnWay trees node end = (rest : List L) × Path trees node end rest
