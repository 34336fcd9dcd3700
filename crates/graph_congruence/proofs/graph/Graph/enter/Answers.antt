use Rattle.std.proofs.Common.{refl}
use Rattle.graph_congruence.specs.Operations.{old_row}
use Rattle.graph_congruence.proofs.AddedLemmas.{Adds-new}
use Rattle.graph_congruence.proofs.graph.Graph.enter.Goals as goal

pub returns-in-Some-clause-added : goal.returns-in-Some-clause-added
returns-in-Some-clause-added c = old_row c.in-Some.ensures.found refl c.new.ensures

pub returns-in-None-clause-added : goal.returns-in-None-clause-added
returns-in-None-clause-added c = Adds-new c.add_new.result c.args.self.now c.add_new.new.self c.args.symbol c.args.args.now c.in-None.ensures.absent c.add_new.ensures.term c.add_new.ensures.fresh c.add_new.ensures.ok c.add_new.ensures.unions
