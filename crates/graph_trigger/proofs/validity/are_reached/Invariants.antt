use Rattle.std.proofs.Common.{ℕ, ◌<◌}
use Rattle.graph_trigger.specs.Validity.{IsReached}
use Rattle.graph_trigger.proofs.validity.are_reached.Given as goal

abbrev pub invariant-loop-row : goal.invariant-loop-row
invariant-loop-row l = (row : ℕ) → row < l.row → IsReached l.rows l.roots row
