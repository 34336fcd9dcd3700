use Rattle.std.proofs.Common.{◌≡◌, map, take}
use Rattle.smt_names.specs.Value.{row_of as number}
use Rattle.smt_forms.proofs.parts.rows_of.Given as goal

abbrev pub invariant-loop-part : goal.invariant-loop-part
invariant-loop-part l = l.numbers.items ≡ map number (take l.part-index l.parts)
