use Rattle.std.proofs.Common.{◌≡◌, drop}
use Rattle.smt_forms.specs.Nodes.{all_have_complements}
use Rattle.smt_forms.proofs.parts.have_complements.Given as goal

-- what the parts that are left answer is what all answer
abbrev pub invariant-loop-part : goal.invariant-loop-part
invariant-loop-part l = all_have_complements (drop l.part-index l.parts) ≡ all_have_complements l.parts
