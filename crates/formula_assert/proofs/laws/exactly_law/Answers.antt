use Rattle.formula_assert.proofs.ExactLaws.{exact_at_start, exact_pushed, exact_popped, exact_formula, exact_stopped, exact_instance, exact_stopped_instance}
use Rattle.formula_assert.proofs.laws.exactly_law.Goals as goal

pub returns-clause-start : goal.returns-clause-start
returns-clause-start c = exact_at_start

pub returns-clause-opened : goal.returns-clause-opened
returns-clause-opened c = exact_pushed

pub returns-clause-ended : goal.returns-clause-ended
returns-clause-ended c = exact_popped

pub returns-clause-asserted : goal.returns-clause-asserted
returns-clause-asserted c = exact_formula

pub returns-clause-stopped : goal.returns-clause-stopped
returns-clause-stopped c = exact_stopped

pub returns-clause-asserted_instance : goal.returns-clause-asserted_instance
returns-clause-asserted_instance c = exact_instance

pub returns-clause-stopped_instance : goal.returns-clause-stopped_instance
returns-clause-stopped_instance c = exact_stopped_instance
