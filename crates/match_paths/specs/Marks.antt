-- Marks of the triggers of an index.
use Rattle.std.specs.Prelude.{◌≡◌, ◌<◌, ◌≤◌, ◌↔◌, ℕ, List, length, slice_get, Some}
use Rattle.match_trees.specs.declared.entry.Entry.{Entry}
use Rattle.match_trees.specs.declared.mark.Mark.{Mark}
use Rattle.match_paths.specs.declared.link.Link.{Link}
use Rattle.match_trees.specs.Trees.{Trees}
use Rattle.match_trees.specs.EntryList.{EntryList}

-- what stood before the trigger with the number: the entries of earlier triggers, which end at nodes that stood
pub record IsMark (trees : Trees Link) (list : EntryList) (number : ℕ) (mark : Mark) : Type 0 where
  pub nodes : mark.nodes ≤ length trees.labels
  pub entries : mark.entries ≤ length list.entries
  pub splits : (n : ℕ) (entry : Entry) → slice_get list.entries n ≡ Some entry → (entry.trigger < number) ↔
      (n < mark.entries)
  pub ends : (n end : ℕ) → n < mark.entries → slice_get list.ends n ≡ Some end → end < mark.nodes

-- a mark for each trigger
pub record AreMarks (trees : Trees Link) (list : EntryList) (marks : List Mark) : Type 0 where
  pub each : (number : ℕ) (mark : Mark) → slice_get marks number ≡ Some mark → IsMark trees list number mark
  pub rising : (i j : ℕ) (a b : Mark) → i ≤ j → slice_get marks i ≡ Some a → slice_get marks j ≡ Some b →
      (a.nodes ≤ b.nodes) × (a.entries ≤ b.entries)
  pub below : (n : ℕ) (entry : Entry) → slice_get list.entries n ≡ Some entry → entry.trigger < length marks
  pub ends : (n end : ℕ) → slice_get list.ends n ≡ Some end → end < length trees.labels
