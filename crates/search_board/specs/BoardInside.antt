-- What a `Board` keeps true of its fields.
use Rattle.std.specs.Prelude.{◌≡◌, ℕ, ◌<◌, ◌≤◌, ◌^◌, Bool, false, List, length, slice_index_or}
use Rattle.search_board.specs.declared.counts.Counts.{Counts}
use Rattle.search_board.specs.declared.board.Board.TheInside.{Inside}
use Rattle.search_board.specs.Places.{counts_of}
use Rattle.search_board.specs.Board.{Shown, AreAligned, places_at, unit_at, open_at, stuck_at}

-- what is shown of the fields
abbrev pub shown_of : Inside → Shown
shown_of inside = record {
  kinds = inside.kinds.items;
  truths = inside.truths.items;
  asserted = inside.asserted.items;
  places = inside.places.items;
}

-- the counts of no places
abbrev pub no_counts : Counts
no_counts = record { yes = 0; no = 0; left = 0; fresh = 0 }

-- exactly the numbers that pass the test are members, and the set is of the numbers below so many
pub record AreMembers (count : ℕ) (test : ℕ → Bool) (set : List Bool) : Type 0 where
  pub room : length set ≡ count
  pub are : (n : ℕ) → slice_index_or set n false ≡ test n

-- the counts are those of the places, and the sets those of the tests
pub record IsSoundBoard (room : ℕ) (shown : Shown) (counts : List Counts)
    (unit_set open_set stuck_set : List Bool) : Type 0 where
  pub aligned : AreAligned shown
  pub within : length shown.kinds ≤ room
  pub small : room < 2 ^ 32
  pub len : length counts ≡ length shown.kinds
  pub counted : (n : ℕ) → n < length shown.kinds → slice_index_or counts n no_counts ≡ counts_of (places_at shown n)
  pub units : AreMembers room (unit_at shown) unit_set
  pub opens : AreMembers room (open_at shown) open_set
  pub stuck : AreMembers room (stuck_at shown) stuck_set

-- the fields are right
abbrev pub IsSound : Inside → Type 0
IsSound inside =
    IsSoundBoard (2 ^ inside.sets.height) (shown_of inside) inside.counts.items inside.sets.units inside.sets.opens
    inside.sets.stuck
