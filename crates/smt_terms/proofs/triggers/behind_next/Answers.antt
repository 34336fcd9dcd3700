use Rattle.smt_terms.proofs.TriggerLemmas.{sees_one, sees_list}
use Rattle.smt_terms.proofs.triggers.behind_next.Goals as goal

pub returns-in-Token : goal.returns-in-Token
returns-in-Token c = sees_one c.args.tree.now c.args.i c.in-Token.ensures

pub returns-in-List : goal.returns-in-List
returns-in-List c = sees_list c.args.tree.now c.args.i c.in-List.after c.in-List.ensures
