use Rattle.std.proofs.Common.{◌≡◌, take}
use Rattle.formula_truth.specs.Truths.{all_of}
use Rattle.formula_value.specs.ByParts.{values_of}
use Rattle.formula_value.proofs.connective.conjunction.Given as goal

abbrev pub invariant-loop-part : goal.invariant-loop-part
invariant-loop-part l = l.all ≡ all_of (values_of l.values (take l.part-index l.parts))
