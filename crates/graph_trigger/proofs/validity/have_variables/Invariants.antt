use Rattle.std.proofs.Common.{ℕ, ◌<◌}
use Rattle.graph_trigger.specs.Validity.{VariableStands}
use Rattle.graph_trigger.proofs.validity.have_variables.Given as goal

abbrev pub invariant-loop-index : goal.invariant-loop-index
invariant-loop-index l = (index : ℕ) → index < l.index → VariableStands l.rows index
