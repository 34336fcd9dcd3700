use Rattle.formula_assert.proofs.InstanceLemmas.{instance_from}
use Rattle.formula_assert.proofs.laws.instance_law.Goals as goal

pub returns : goal.returns
returns c = instance_from
