-- Three sets that grow together.
use Rattle.std.specs.Prelude.{◌≡◌, ℕ, ◌<◌, ◌^◌, false, List, Bool, length, slice_index_or}
use Rattle.search_board.specs.declared.sets.Sets.{Sets}

-- each is of the numbers below 2 to the power of the height
pub record AreAlike (sets : Sets) : Type 0 where
  pub few : sets.height < 32
  pub units : length sets.units ≡ 2 ^ sets.height
  pub opens : length sets.opens ≡ 2 ^ sets.height
  pub stuck : length sets.stuck ≡ 2 ^ sets.height

-- the two have the same members
abbrev pub HaveSameMembers : List Bool → List Bool → Type 0
HaveSameMembers old new = (n : ℕ) → slice_index_or new n false ≡ slice_index_or old n false

-- each has the members that it had
pub record IsWider (old new : Sets) : Type 0 where
  pub units : HaveSameMembers old.units new.units
  pub opens : HaveSameMembers old.opens new.opens
  pub stuck : HaveSameMembers old.stuck new.stuck
