-- The table of signatures.
use Rattle.std.specs.Prelude.{ℕ, List, [], ◌∷◌, Option, Some, None, nat_eq, if◌then◌else◌}
use Rattle.std.specs.declared.alloc.Global.{Global}
use Rattle.std.specs.declared.vec.Vec.{Vec}
use Rattle.std.specs.Cmp.Lexicographic.{pointwise}

-- the entries, with each key as the list of its numbers
abbrev pub shown_entries : List (Vec ℕ Global × ℕ) → List (List ℕ × ℕ)
shown_entries [] = []
shown_entries (entry ∷ entries) = (entry.0.items, entry.1) ∷ shown_entries entries

-- the term that a table of signatures has first at a key
abbrev pub found : List (List ℕ × ℕ) → List ℕ → Option ℕ
found [] key = None
found (entry ∷ entries) key = if pointwise nat_eq key entry.0 then Some entry.1 else found entries key
