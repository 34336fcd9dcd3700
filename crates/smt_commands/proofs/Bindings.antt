-- The parameters of a definition.
use Rattle.std.proofs.Common.{◌≡◌, List, Result, Ok, Err, ap, ◌∙◌}
use Rattle.formula_draft.specs.Draft.{Draft}
use Rattle.smt_names.specs.declared.bound.Bound.{Bound}
use Rattle.smt_names.specs.declared.stop.Stop.{Stop}
use Rattle.smt_names.specs.Making.{Making, then_from, ◌>>=◌}
use Rattle.smt_commands.specs.declared.parameters.Parameters.{Parameters}
use Rattle.smt_commands.specs.Parameters.{HasParameters}
use Rattle.smt_commands.proofs.Steps.{refused_after}

-- what follows a step has the parameters
pub has_after : {A : Type 0} (rest : A → Making (List Bound)) (result : Result Parameters Stop) (first : Making A) (value : A) → ((draft : Draft) → first draft ≡ Ok (value, draft)) → HasParameters result (rest value) → HasParameters result (first >>= rest)
has_after rest (Ok p) first value is has = ((λ draft. ap (then_from rest) (is draft) ∙ has.0 draft), has.1)
has_after rest (Err stopped) first value is has = λ draft. refused_after rest stopped (first draft) value draft (is draft) (has draft)
