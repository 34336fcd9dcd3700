-- For each leader a list of numbers.
use Rattle.std.specs.Prelude.{◌≡◌, ℕ, ◌+◌, ◌-◌, ◌<◌, ◌≤◌, ◌^◌, min, List, [], ◌∷◌, ◌++◌, length, take}
use Rattle.std.specs.Prelude.{slice_index, slice_index_or, slice_set, replicate}
use Rattle.search_watch.specs.declared.link.Link.{Link}
use Rattle.search_watch.specs.declared.link.Link.TheVariants.{Added, Grown, Led}

-- the slot of each term, and the list of each slot
pub record Chained : Type 0 where
  pub slots : List ℕ
  pub lists : List (List ℕ)

-- the slot of a leader
abbrev pub slot_at : Chained → ℕ → ℕ
slot_at chains leader = slice_index chains.slots leader

-- the list of a slot
abbrev pub list_at : Chained → ℕ → List ℕ
list_at chains slot = slice_index_or chains.lists slot []

-- the chain of a leader is the list of its slot
abbrev pub chain_at : Chained → ℕ → List ℕ
chain_at chains leader = list_at chains (slot_at chains leader)

-- no terms
abbrev pub no_chains : Chained
no_chains = record { slots = []; lists = [] }

-- one more term, which leads an empty list of its own
abbrev pub with_term : Chained → Chained
with_term chains = record { slots = chains.slots ++ length chains.slots ∷ []; lists = chains.lists ++ [] ∷ [] }

-- so many terms more, each of which leads an empty list of its own; there is a list for each term
pub record AddsTerms (count : ℕ) (old new : Chained) : Type 0 where
  pub terms : length new.slots ≡ length old.slots + count
  pub aligned : length new.lists ≡ length new.slots
  pub lists : new.lists ≡ old.lists ++ replicate count []
  pub stay : (term : ℕ) → term < length old.slots → slot_at new term ≡ slot_at old term
  pub own : (term : ℕ) → length old.slots ≤ term → term < length new.slots → slot_at new term ≡ term

-- a slot and a list for each term
pub record AreChains (chains : Chained) : Type 0 where
  pub aligned : length chains.lists ≡ length chains.slots
  pub few : length chains.slots < 2 ^ 32

-- the leader has a list
pub record HasChain (chains : Chained) (leader : ℕ) : Type 0 where
  pub leader_stands : leader < length chains.slots
  pub slot_stands : slot_at chains leader < length chains.lists

-- the leader has this slot now
abbrev pub with_slot : Chained → ℕ → ℕ → Chained
with_slot chains leader slot = record chains { slots = slice_set chains.slots leader slot }

-- the slot has this list now
abbrev pub with_list : Chained → ℕ → List ℕ → Chained
with_list chains slot list = record chains { lists = slice_set chains.lists slot list }

-- an item comes last in the list of the slot
abbrev pub grown : Chained → ℕ → ℕ → Chained
grown chains slot item = with_list chains slot (list_at chains slot ++ item ∷ [])

-- an item comes last in the chain of the leader
abbrev pub with_item : Chained → ℕ → ℕ → Chained
with_item chains leader item = grown chains (slot_at chains leader) item

-- an item comes last in the chain of the one leader, and then in that of the other
abbrev pub with_both : Chained → ℕ → ℕ → ℕ → Chained
with_both chains left right item = with_item (with_item chains left item) right item

-- the chain of one leader is put behind that of the other
abbrev pub appended : Chained → ℕ → ℕ → Chained
appended chains moved kept = with_list chains (slot_at chains kept) (chain_at chains kept ++ chain_at chains moved)

-- the chain of one leader is put behind that of the other, and the lesser leader leads both
abbrev pub chained : Chained → ℕ → ℕ → Chained
chained chains moved kept = record {
  slots = slice_set chains.slots (min moved kept) (slot_at chains kept);
  lists = slice_set chains.lists (slot_at chains kept) (chain_at chains kept ++ chain_at chains moved);
}

-- without the last term, and without its list
abbrev pub without_term : Chained → Chained
without_term chains = record {
  slots = take (length chains.slots - 1) chains.slots;
  lists = take (length chains.lists - 1) chains.lists;
}

-- the chains before a change
abbrev pub before_link : Chained → Link → Chained
before_link chains Added = without_term chains
before_link chains (Grown slot len) = with_list chains slot (take len (list_at chains slot))
before_link chains (Led leader slot) = with_slot chains leader slot

-- the change is undone
abbrev pub Unlinked : Chained → Link → Chained → Type 0
Unlinked after link undone = undone ≡ before_link after link

-- so what was there before the change is there again
pub unlinked_gives_before : (after : Chained) (link : Link) (undone : Chained) →
    Unlinked after link undone → undone ≡ before_link after link
unlinked_gives_before after link undone is = is
