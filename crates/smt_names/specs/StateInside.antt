-- What a state keeps true of its fields.
use Rattle.std.specs.Prelude.{ℕ, ◌≤◌, ◌<◌, ◌^◌, List, map, length, Vec}
use Rattle.std.specs.declared.alloc.Global.{Global}
use Rattle.smt_names.specs.declared.signature.Signature.{Signature}
use Rattle.smt_names.specs.declared.definition.Definition as definition
use Rattle.smt_names.specs.declared.session_state.SessionState.TheInside.{Inside}
use Rattle.smt_names.specs.Entries.{IsSmall}
use Rattle.smt_names.specs.Names.{State, Declared, Defined, defined_as}

abbrev pub sort_of_entry : Vec ℕ Global × Unit {0} → List ℕ
sort_of_entry entry = entry.0.items

abbrev pub declared : Vec ℕ Global × Signature → Declared
declared entry = record { name = entry.0.items; arguments = entry.1.arguments; sort = entry.1.sort }

abbrev pub defined : Vec ℕ Global × definition.Definition → Defined
defined entry = defined_as entry.0.items entry.1

-- the state that the fields hold
abbrev pub state_of : Inside → State
state_of s = record {
  limits = s.limits;
  prints_success = s.prints_success;
  sorts = map sort_of_entry s.sorts.entries;
  functions = map declared s.functions.entries;
  definitions = map defined s.definitions.entries;
  levels = s.levels.items;
}

-- numbers fit, and as many levels are open as may be
pub record IsSound (s : Inside) : Type 0 where
  pub sorts : IsSmall s.sorts.entries
  pub functions : IsSmall s.functions.entries
  pub definitions : IsSmall s.definitions.entries
  pub levels : length s.levels.items ≤ s.limits.levels
  pub fits : s.limits.levels < 2 ^ 32
