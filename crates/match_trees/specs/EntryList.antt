-- Entries, each with the node at which its way ends.
use Rattle.std.specs.Prelude.{◌≡◌, ℕ, ◌≤◌, ◌++◌, List, [], ◌∷◌, length, take}
use Rattle.match_trees.specs.declared.entry.Entry.{Entry}

pub record EntryList : Type 0 where
  pub entries : List Entry
  pub ends : List ℕ

-- the entry of a trigger and a start
abbrev pub entry_of : ℕ → ℕ → Entry
entry_of trigger start = record { trigger = trigger; start = start }

-- the first entries
abbrev pub list_front : ℕ → EntryList → EntryList
list_front n list = record { entries = take n list.entries; ends = take n list.ends }

-- the list after one entry more
abbrev pub with_entry : EntryList → Entry → ℕ → EntryList
with_entry list entry end = record { entries = list.entries ++ entry ∷ []; ends = list.ends ++ end ∷ [] }

-- entries came last, or none
pub record ExtendsList (old new : EntryList) : Type 0 where
  pub within : length old.entries ≤ length new.entries
  pub front : list_front (length old.entries) new ≡ old
