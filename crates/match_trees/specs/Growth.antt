-- Trees to which nodes came.
use Rattle.std.specs.Prelude.{◌≡◌, ℕ, ◌<◌, ◌≤◌, List, length, slice_get, Some, Option}
use Rattle.match_trees.specs.Trees.{Trees, Path, Way, trees_front}

-- nodes came last, or none
pub record Extends {L : Type 0} (old new : Trees L) : Type 0 where
  pub within : length old.labels ≤ length new.labels
  pub front : trees_front (length old.labels) new ≡ old

-- the node stands at this place with this label, and no other came
pub record Puts {L : Type 0} (old new : Trees L) (at : Option ℕ) (label : L) (node : ℕ) : Type 0 where
  pub extends : Extends old new
  pub place : slice_get new.above node ≡ Some at
  pub has : slice_get new.labels node ≡ Some label
  pub fresh : (other : ℕ) → length old.labels ≤ other → other < length new.labels → other ≡ node

-- the labels are the way to the node, and all nodes that came stand on it
pub record Leads {L : Type 0} (old new : Trees L) (code : List L) (end : ℕ) : Type 0 where
  pub extends : Extends old new
  pub way : Way new end code
  pub fresh : (node : ℕ) → length old.labels ≤ node → node < length new.labels → (rest : List L) ×
      Path new node end rest
