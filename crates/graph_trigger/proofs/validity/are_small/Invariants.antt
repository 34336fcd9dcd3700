use Rattle.std.proofs.Common.{◌≡◌, ◌≤◌, ℕ, ◌<◌, slice_get, Some}
use Rattle.graph_trigger.specs.Trigger.{HasSize}
use Rattle.graph_trigger.proofs.validity.are_small.Given as goal

abbrev pub invariant-loop-i : goal.invariant-loop-i
invariant-loop-i l = (i root size : ℕ) → i < l.i → slice_get l.roots i ≡ Some root → HasSize l.rows root size → size ≤ 256
