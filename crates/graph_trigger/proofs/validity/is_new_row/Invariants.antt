use Rattle.std.proofs.Common.{◌≢◌, ℕ, ◌<◌, slice_get}
use Rattle.graph_trigger.proofs.validity.is_new_row.Given as goal

abbrev pub invariant-loop-earlier : goal.invariant-loop-earlier
invariant-loop-earlier l = (earlier : ℕ) → earlier < l.earlier → slice_get l.rows earlier ≢ slice_get l.rows l.place
