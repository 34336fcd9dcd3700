-- What a `PathIndex` keeps.
use Rattle.std.specs.Prelude.{length}
use Rattle.match_paths.specs.Paths.{Paths}
use Rattle.match_paths.specs.Marks.{AreMarks}
use Rattle.match_paths.specs.declared.path_index.PathIndex.TheInside.{Inside}

abbrev pub paths_of : Inside → Paths
paths_of inside = record { trees = inside.nodes; list = inside.entries; triggers = length inside.marks.items }

abbrev pub IsSound : Inside → Type 0
IsSound inside = AreMarks inside.nodes inside.entries inside.marks.items
