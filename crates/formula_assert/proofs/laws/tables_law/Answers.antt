use Rattle.formula_assert.proofs.OutcomeLaws.{tables_at_start, tables_pushed, tables_popped, tables_asserted, tables_instance, tables_stand}
use Rattle.formula_assert.proofs.laws.tables_law.Goals as goal

pub returns-clause-start : goal.returns-clause-start
returns-clause-start c = tables_at_start

pub returns-clause-opened : goal.returns-clause-opened
returns-clause-opened c = tables_pushed

pub returns-clause-ended : goal.returns-clause-ended
returns-clause-ended c = tables_popped

pub returns-clause-asserted : goal.returns-clause-asserted
returns-clause-asserted c = tables_asserted

pub returns-clause-held : goal.returns-clause-held
returns-clause-held c = tables_stand

pub returns-clause-asserted_instance : goal.returns-clause-asserted_instance
returns-clause-asserted_instance c forall tuple before after has stand are =
    tables_instance forall tuple before has stand are after
