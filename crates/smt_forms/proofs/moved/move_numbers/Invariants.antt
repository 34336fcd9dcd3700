use Rattle.std.proofs.Common.{◌≡◌, take}
use Rattle.smt_forms.specs.Moved.{moved_numbers}
use Rattle.smt_forms.proofs.moved.move_numbers.Given as goal

abbrev pub invariant-loop-n : goal.invariant-loop-n
invariant-loop-n l = l.found.items ≡ moved_numbers l.moved (take l.n-index l.numbers)
