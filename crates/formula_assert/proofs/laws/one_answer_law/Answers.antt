use Rattle.formula_assert.proofs.OutcomeLaws.{asserts_formula_once, asserted_not_stopped, stopped_once, instance_once, instance_not_stopped, instance_stopped_once}
use Rattle.formula_assert.proofs.laws.one_answer_law.Goals as goal

pub returns-clause-once : goal.returns-clause-once
returns-clause-once c = asserts_formula_once

pub returns-clause-not_both : goal.returns-clause-not_both
returns-clause-not_both c = asserted_not_stopped

pub returns-clause-alike : goal.returns-clause-alike
returns-clause-alike c = stopped_once

pub returns-clause-once_instance : goal.returns-clause-once_instance
returns-clause-once_instance c forall tuple before one other has stand are =
    instance_once forall tuple before has stand are one other

pub returns-clause-not_both_instance : goal.returns-clause-not_both_instance
returns-clause-not_both_instance c forall tuple before one other fault has stand are =
    instance_not_stopped forall tuple before has stand are one other fault

pub returns-clause-alike_instance : goal.returns-clause-alike_instance
returns-clause-alike_instance c forall tuple before one other fault also has stand are =
    instance_stopped_once forall tuple before has stand are one other fault also
