use Rattle.std.proofs.Common.{◌≡◌, ◌*◌, ◌≤◌, replicate, false}
use Rattle.search_set.proofs.least_set.LeastSet.new.Given as goal

abbrev pub invariant-loop : goal.invariant-loop
invariant-loop l = (l.marks.items ≡ replicate l.counter false) × (l.counter ≤ 2 * l.room)
