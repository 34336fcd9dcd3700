use Rattle.match_pool.specs.Once.{IsAsked}
use Rattle.match_pool.proofs.Finding.{all-at}
use Rattle.match_pool.proofs.findings.answer_to.Goals as goal

pub run-requires-clause-tree : goal.run-requires-clause-tree
run-requires-clause-tree g c = (all-at (IsAsked c.args.forest.now) c.args.batch.now c.args.number c.get.result.now c.requires c.get.ensures.value).0

pub run-requires-clause-stands : goal.run-requires-clause-stands
run-requires-clause-stands g c = (all-at (IsAsked c.args.forest.now) c.args.batch.now c.args.number c.get.result.now c.requires c.get.ensures.value).1
