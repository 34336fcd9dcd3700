-- The lists that a map of them shows.
use Rattle.std.specs.Prelude.{ℕ, List, [], Option, Some, None}
use Rattle.std.specs.Map.{lookup}
use Rattle.graph_classes.specs.declared.place.Place.{Place}
use Rattle.graph_classes.specs.Lists.{same_place}

-- the list that is there, or the empty one
abbrev pub list_or_none : Option (List ℕ) → List ℕ
list_or_none (Some list) = list
list_or_none None = []

-- the list at each place
abbrev pub lists_in : List (Place × List ℕ) → Place → List ℕ
lists_in entries place = list_or_none (lookup (same_place place) entries)
