-- Entries, each under a name.
use Rattle.std.specs.Prelude.{◌≡◌, ℕ, ◌<◌, ◌≤◌, List, map, length, bytes_eq, Option, Vec}
use Rattle.std.specs.List.{position_from}
use Rattle.std.specs.declared.alloc.Global.{Global}

-- the place of the entry with this name
abbrev pub place_of : {T : Type 0} → List ℕ → List (Vec ℕ Global × T) → Option ℕ
place_of name entries = position_from (λ e. bytes_eq name e.0.items) 0 entries

-- the name of an entry
abbrev pub name_of : {T : Type 0} → Vec ℕ Global × T → List ℕ
name_of entry = entry.0.items

-- their number fits, and still does when one is counted before them
abbrev pub IsSmall : {T : Type 0} → List (Vec ℕ Global × T) → Type 0
IsSmall entries = length entries ≤ 4294967280
