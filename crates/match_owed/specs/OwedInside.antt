-- What an `Owed` keeps.
use Rattle.std.specs.Prelude.{◌≡◌, ◌≤◌, ℕ, length, slice_get, Some}
use Rattle.match_owed.specs.OwedLog.{OwedLog}
use Rattle.match_owed.specs.declared.owed.Owed.TheInside.{Inside}

abbrev pub owed_of : Inside → OwedLog
owed_of inside = record {
  log = inside.log;
  levels = inside.levels.items;
  begun = inside.begun;
  batch = inside.batch;
  items = inside.items.items;
}

-- marks are in the log: those of levels rise, and an operation began after them and after the batch
pub record IsKept (state : OwedLog) : Type 0 where
  pub within : (k mark : ℕ) → slice_get state.levels k ≡ Some mark → mark ≤ length state.log
  pub rising : (k l m n : ℕ) → k ≤ l → slice_get state.levels k ≡ Some m → slice_get state.levels l ≡ Some n → m ≤ n
  pub taken : (mark : ℕ) → state.batch ≡ Some mark → mark ≤ length state.log
  pub begin : (mark : ℕ) → state.begun ≡ Some mark → mark ≤ length state.log
  pub after_levels : (mark m k : ℕ) → state.begun ≡ Some mark → slice_get state.levels k ≡ Some m → m ≤ mark
  pub after_batch : (mark m : ℕ) → state.begun ≡ Some mark → state.batch ≡ Some m → m ≤ mark

abbrev pub IsSound : Inside → Type 0
IsSound inside = IsKept (owed_of inside)
