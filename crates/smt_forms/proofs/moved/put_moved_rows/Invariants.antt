use Rattle.std.proofs.Common.{length, ◌-◌, ◌≡◌, ◌≤◌, [], drop}
use Rattle.smt_forms.specs.Moved.{moved_rows}
use Rattle.smt_forms.proofs.moved.put_moved_rows.Given as goal

-- what is made of the rows that are left is what is made of all
abbrev pub invariant-loop-i : goal.invariant-loop-i
invariant-loop-i l = (l.i ≤ length l.source.rows) × (moved_rows l.args l.rows.items l.at (drop l.i l.source.rows) l.draft ≡ moved_rows l.args [] l.at l.source.rows l.fn.draft)

abbrev pub decreases-loop-i : goal.decreases-loop-i
decreases-loop-i l = length l.source.rows - l.i
