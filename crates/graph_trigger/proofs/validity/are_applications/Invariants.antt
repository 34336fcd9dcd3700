use Rattle.std.proofs.Common.{◌≡◌, ℕ, ◌<◌, slice_get, Some}
use Rattle.graph_trigger.specs.Trigger.{IsApplication}
use Rattle.graph_trigger.proofs.validity.are_applications.Given as goal

abbrev pub invariant-loop-i : goal.invariant-loop-i
invariant-loop-i l = (i root : ℕ) → i < l.i → slice_get l.roots i ≡ Some root → IsApplication l.rows root
