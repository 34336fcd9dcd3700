-- What a `NodeTable` keeps.
use Rattle.std.specs.Prelude.{ℕ, zero, suc, ◌<◌, ◌^◌, map, length, Some, None, Option}
use Rattle.match_trees.specs.Trees.{Trees, AreTrees}
use Rattle.match_trees.specs.declared.node_table.NodeTable.TheInside.{Inside}

-- roots are kept under 0, and what is next after a node under the number after it
abbrev pub above_of : ℕ → Option ℕ
above_of zero = None
above_of (suc node) = Some node

module _ {L : Type 0} where
  abbrev pub trees_of : Inside L → Trees L
  trees_of inside = record { above = map above_of inside.after; labels = inside.labels.items }

-- the nodes are trees
pub record IsSound {L : Type 0} (inside : Inside L) : Type 0 where
  pub trees : AreTrees (trees_of inside)
  pub few : length inside.labels.items < 2 ^ 32
