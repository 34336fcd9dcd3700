-- Patterns of triggers, by the symbols of their roots.
use Rattle.std.specs.Prelude.{◌≡◌, ◌<◌, ◌≤◌, ◌↔◌, ℕ, List, [], length, slice_get, Some}
use Rattle.graph_trigger.specs.declared.trigger.Trigger.{Trigger}
use Rattle.graph_meaning.specs.Justified.{AppliesAt}
use Rattle.match_trees.specs.declared.entry.Entry.{Entry}
use Rattle.match_trees.specs.EntryList.{EntryList, ExtendsList, entry_of, with_entry}

-- entries, each with the symbol of its pattern as its end, and the number of triggers
pub record StartList : Type 0 where
  pub list : EntryList
  pub triggers : ℕ

-- the entry of the trigger and the start has this symbol
abbrev pub IsListed : EntryList → ℕ → ℕ → ℕ → Type 0
IsListed list number start symbol = (place : ℕ) × (slice_get list.entries place ≡ Some (entry_of number start)) ×
    (slice_get list.ends place ≡ Some symbol)

-- the patterns of these triggers: each trigger and start, with the symbol that its pattern applies at its root
pub record Serves (starts : StartList) (triggers : List Trigger) : Type 0 where
  pub many : starts.triggers ≡ length triggers
  pub exact : (number start symbol : ℕ) → IsListed starts.list number start symbol ↔
      ((trigger : Trigger) × (slice_get triggers number ≡ Some trigger) × AppliesAt trigger start [] symbol)

-- entries stand in the order of their triggers
abbrev pub AreRising : EntryList → Type 0
AreRising list = (i j : ℕ) (a b : Entry) → i ≤ j → slice_get list.entries i ≡ Some a →
    slice_get list.entries j ≡ Some b → a.trigger ≤ b.trigger

-- what `Starts` keeps: entries in the order of their triggers, which are below the number of triggers
pub record AreInOrder (list : EntryList) (triggers : ℕ) : Type 0 where
  pub below : (place : ℕ) (entry : Entry) → slice_get list.entries place ≡ Some entry → entry.trigger < triggers
  pub rising : AreRising list

-- the first entries are those of the first triggers
abbrev pub SplitsAt : EntryList → ℕ → ℕ → Type 0
SplitsAt list triggers count = (place : ℕ) (entry : Entry) → slice_get list.entries place ≡ Some entry →
    (entry.trigger < triggers) ↔ (place < count)

-- the first patterns of the trigger came last, each with its symbol
pub record Lists (trigger : Trigger) (number count : ℕ) (old new : EntryList) : Type 0 where
  pub extends : ExtendsList old new
  pub each : length new.ends ≡ length new.entries
  pub sound : (place : ℕ) (entry : Entry) → length old.entries ≤ place → slice_get new.entries place ≡ Some entry →
      (symbol : ℕ) × (entry.trigger ≡ number) × (slice_get new.ends place ≡ Some symbol) ×
      AppliesAt trigger entry.start [] symbol
  pub complete : (start symbol : ℕ) → start < count → AppliesAt trigger start [] symbol →
      IsListed new number start symbol

-- the pattern at the start came last with its symbol, or there is none
pub data ListsOne (trigger : Trigger) (number start : ℕ) (old new : EntryList) : Type 0 where
  lists : {symbol : ℕ} → AppliesAt trigger start [] symbol → new ≡ with_entry old (entry_of number start) symbol →
      ListsOne trigger number start old new
  passes : ((symbol : ℕ) → AppliesAt trigger start [] symbol → ⊥) → new ≡ old → ListsOne trigger number start old new
