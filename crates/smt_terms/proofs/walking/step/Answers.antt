use Rattle.smt_terms.proofs.walking.step.Goals as goal

pub returns-in-Token : goal.returns-in-Token
returns-in-Token c = c.pass_token.ensures c.args.missing

pub returns-in-List : goal.returns-in-List
returns-in-List c = c.enter_list.ensures c.args.missing c.args.draft.now
