-- Names of standing lists, and serials.
use Rattle.std.specs.Prelude.{◌≡◌, ℕ, ◌-◌, ◌<◌, ◌⊎◌, List, length, slice_get, Some, All, AllPairs}
use Rattle.std.specs.Option.{option_map_or}
use Rattle.graph_meaning.specs.declared.done.Done.{Done}
use Rattle.graph_meaning.specs.declared.front.Front.{Front}

-- the serial of the last operation, or 0 where none stands
abbrev pub last_serial : List Done → ℕ
last_serial standing = option_map_or (λ done. done.serial) (slice_get standing (length standing - 1)) 0

-- the name of a standing list
abbrev pub front_of : List Done → Front
front_of standing = record { length = length standing; last = last_serial standing }

-- the list that the front names is empty, or its last operation still stands at its place
abbrev pub StillStands : List Done → Front → Type 0
StillStands standing front = (front.length ≡ 0) ⊎ ((done : Done) ×
    (slice_get standing (front.length - 1) ≡ Some done) × (done.serial ≡ front.last))

-- serials rise, and each is below the number of operations that were done
pub record HasSerials (standing : List Done) (done : ℕ) : Type 0 where
  pub rise : AllPairs (λ (earlier later : Done). earlier.serial < later.serial) standing
  pub below : All (λ (each : Done). each.serial < done) standing
