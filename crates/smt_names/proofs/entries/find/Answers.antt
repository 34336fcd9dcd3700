use Rattle.std.proofs.Common.{sym, ◌∙◌}
use Rattle.smt_names.proofs.EntryLemmas.{place}
use Rattle.smt_names.proofs.entries.find.Goals as goal

pub returns-in-None-clause-value : goal.returns-in-None-clause-value
returns-in-None-clause-value g c = c.in-None.ensures.index ∙ sym (place c.args.name.now c.args.entries.now.entries)

pub returns-in-Some-clause-value : goal.returns-in-Some-clause-value
returns-in-Some-clause-value g c = c.in-Some.ensures.index ∙ sym (place c.args.name.now c.args.entries.now.entries)
