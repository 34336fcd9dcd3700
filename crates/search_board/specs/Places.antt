-- Places of a node and their counts.
use Rattle.std.specs.Prelude.{ℕ, ◌+◌, ◌-◌, ◌^◌, ◌<◌, ◌≤◌, ◌==◌, Bool, true, false, ◌&&◌, not, List, count_by}
use Rattle.formula_truth.specs.declared.truth.Truth.{Truth}
use Rattle.search_board.specs.declared.kind.Kind.{Kind}
use Rattle.search_board.specs.declared.kind.Kind.TheVariants.{Leaf, And, Or}
use Rattle.search_board.specs.declared.place.Place.{Place}
use Rattle.search_board.specs.declared.counts.Counts.{Counts}
use Rattle.formula_truth.specs.Truths.{is_yes_value, is_no_value}

-- the place was told that its part is Yes
abbrev pub is_yes_place : Place → Bool
is_yes_place place = is_yes_value place.told

-- the place was told that its part is No
abbrev pub is_no_place : Place → Bool
is_no_place place = is_no_value place.told

-- left over: neither No nor struck
abbrev pub is_left_place : Place → Bool
is_left_place place = not (is_no_value place.told) && not place.struck

-- left over, and its part isn't asserted
abbrev pub is_fresh_place : Place → Bool
is_fresh_place place = (not (is_no_value place.told) && not place.struck) && not place.taken

-- one, where the test holds
abbrev pub one_if : Bool → ℕ
one_if true = 1
one_if false = 0

-- the counts of some places
abbrev pub counts_of : List Place → Counts
counts_of places = record {
  yes = count_by is_yes_place places;
  no = count_by is_no_place places;
  left = count_by is_left_place places;
  fresh = count_by is_fresh_place places;
}

-- the counts once one place is changed
abbrev pub count_after : Counts → Place → Place → Counts
count_after counts old new = record {
  yes = counts.yes - one_if (is_yes_place old) + one_if (is_yes_place new);
  no = counts.no - one_if (is_no_place old) + one_if (is_no_place new);
  left = counts.left - one_if (is_left_place old) + one_if (is_left_place new);
  fresh = counts.fresh - one_if (is_fresh_place old) + one_if (is_fresh_place new);
}

-- the counts with one place more
abbrev pub count_more : Counts → Place → Counts
count_more counts new = record {
  yes = counts.yes + one_if (is_yes_place new);
  no = counts.no + one_if (is_no_place new);
  left = counts.left + one_if (is_left_place new);
  fresh = counts.fresh + one_if (is_fresh_place new);
}

-- each count has room for one more
pub record HasRoom (counts : Counts) : Type 0 where
  pub yes : counts.yes + 1 < 2 ^ 32
  pub no : counts.no + 1 < 2 ^ 32
  pub left : counts.left + 1 < 2 ^ 32
  pub fresh : counts.fresh + 1 < 2 ^ 32

-- a count has room for a change
pub record FitsChange (count : ℕ) (old new : Bool) : Type 0 where
  pub counted : one_if old ≤ count
  pub fits : count - one_if old + one_if new < 2 ^ 32

-- the counts have room for the change of a place
pub record CanCount (counts : Counts) (old new : Place) : Type 0 where
  pub yes : FitsChange counts.yes (is_yes_place old) (is_yes_place new)
  pub no : FitsChange counts.no (is_no_place old) (is_no_place new)
  pub left : FitsChange counts.left (is_left_place old) (is_left_place new)
  pub fresh : FitsChange counts.fresh (is_fresh_place old) (is_fresh_place new)

-- an asserted disjunction without a Yes part, with one part left over that isn't asserted
abbrev pub unit_test : Kind → Truth → Bool → Counts → Bool
unit_test Leaf truth asserted counts = false
unit_test And truth asserted counts = false
unit_test Or truth asserted counts = asserted && not (is_yes_value truth) && counts.left == 1 && counts.fresh == 1

-- an asserted disjunction without a Yes part
abbrev pub open_test : Kind → Truth → Bool → Bool
open_test Leaf truth asserted = false
open_test And truth asserted = false
open_test Or truth asserted = asserted && not (is_yes_value truth)

-- an asserted disjunction with nothing left over
abbrev pub stuck_test : Kind → Bool → Counts → Bool
stuck_test Leaf asserted counts = false
stuck_test And asserted counts = false
stuck_test Or asserted counts = asserted && counts.left == 0
