use Rattle.smt_terms.proofs.TriggerLemmas.{patterns_listed}
use Rattle.smt_terms.proofs.triggers.check_patterns.Goals as goal

pub returns-in-List : goal.returns-in-List
returns-in-List c = patterns_listed c.args.tree.now c.args.key c.in-List.after c.place_at-in-List.result c.check_number.result c.place_at-in-List.ensures c.in-List.ensures c.check_number.ensures
