use Rattle.std.proofs.Common.{◌≡◌, ◌^◌, ◌≤◌}
use Rattle.search_set.proofs.TreeLemmas.{over_below}
use Rattle.search_set.proofs.least_set.LeastSet.with_room.Given as goal

abbrev pub invariant-loop-number : goal.invariant-loop-number
invariant-loop-number l = (l.set ≡ over_below l.self (2 ^ l.height) l.number) × (l.number ≤ l.number-end)
