-- What a `LeastSet` keeps true of its fields.
use Rattle.std.specs.Prelude.{◌≡◌, ◌<◌, ◌^◌}
use Rattle.search_set.specs.declared.least_set.LeastSet.TheInside.{Inside}
use Rattle.search_set.specs.Tree.{IsTree}

-- the marks are a tree whose bottom begins at the room, which is what the height gives
pub record IsSound (inside : Inside) : Type 0 where
  pub tree : IsTree inside.marks.items inside.height
  pub room : inside.room ≡ 2 ^ inside.height
  pub few : inside.room < 2 ^ 32
