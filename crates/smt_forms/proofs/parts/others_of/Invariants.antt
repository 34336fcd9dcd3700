use Rattle.std.proofs.Common.{◌≡◌, map, take}
use Rattle.smt_names.specs.Value.{other as number}
use Rattle.smt_forms.proofs.parts.others_of.Given as goal

abbrev pub invariant-loop-part : goal.invariant-loop-part
invariant-loop-part l = l.numbers.items ≡ map number (take l.part-index l.parts)
