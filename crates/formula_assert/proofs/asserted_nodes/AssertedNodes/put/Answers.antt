use Rattle.formula_assert.proofs.WorkLemmas.{inserted_last}
use Rattle.formula_assert.proofs.asserted_nodes.AssertedNodes.put.Goals as goal

pub returns-clause-ok : goal.returns-clause-ok
returns-clause-ok c = inserted_last c.insert.new.self.keys c.self.inside.nodes.keys c.args.self.now c.args.n c.in_ok-insert.ensures.keys c.self.view_is c.requires
