use Rattle.std.proofs.Common.{◌≡◌, take}
use Rattle.smt_forms.specs.Applied.{values_of}
use Rattle.smt_forms.proofs.parts.values_of.Given as goal

abbrev pub invariant-loop-arg : goal.invariant-loop-arg
invariant-loop-arg l = l.values.items ≡ values_of (take l.arg-index l.args)
