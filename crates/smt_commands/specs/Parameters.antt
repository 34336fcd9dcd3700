-- The parameters of a definition, as a call gives them.
use Rattle.std.specs.Prelude.{◌≡◌, List, Result, Ok, Err}
use Rattle.formula_draft.specs.Draft.{Draft}
use Rattle.smt_names.specs.declared.bound.Bound.{Bound}
use Rattle.smt_names.specs.declared.stop.Stop.{Stop}
use Rattle.smt_names.specs.Making.{Making}
use Rattle.smt_names.specs.Makes.{Refuses}
use Rattle.smt_commands.specs.declared.parameters.Parameters.{Parameters}
use Rattle.smt_terms.specs.Scopes.{sorts_of}

-- these are the parameters, with their sorts
abbrev pub HasParameters : Result Parameters Stop → Making (List Bound) → Type 0
HasParameters (Ok parameters) making = ((draft : Draft) → making draft ≡ Ok (parameters.bound, draft)) ×
    (parameters.sorts ≡ sorts_of parameters.bound)
HasParameters (Err stopped) making = (draft : Draft) → Refuses stopped (making draft)
