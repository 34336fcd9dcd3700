use Rattle.formula_assert.proofs.StackLemmas.{pop_gone, pop_back}
use Rattle.formula_assert.proofs.laws.pop_law.Goals as goal

pub returns-clause-gone : goal.returns-clause-gone
returns-clause-gone c = pop_gone

pub returns-clause-back : goal.returns-clause-back
returns-clause-back c = pop_back
